-- The levels that a request writes: how many, which, how large; and a space with the first of them written over its front. Assumes nothing.
use Prim.Native.Nat.{ℕ, zero, suc, ◌+◌, ◌*◌, ◌/◌, ◌≤◌, ◌<◌, zero-le}
use mathlib.Core.Path.{◌≡◌, refl, sym, ap, ◌∙◌}
use mathlib.Core.Bool.{Bool, true, false}
use mathlib.Core.List.{List, [], ◌∷◌, ◌++◌, map}
use native.Mathlib.Omega.{arith}
use lib.Dec.{eqb, ltb}
use lib.ListN.{length, get_or, take, drop, set, length-map, get_or-map}
use lib.Seq.{drop-cons, take-suc, set_at, append_snoc, length-take-le}
use borrow.Author.Tests.{ltb-false}
use Rattle.format.specs.declared.format.Format.{Format}
use Rattle.format.specs.declared.counts.Pulses.{Pulses}
use Rattle.format.specs.Pick.{pick}
use Rattle.format.specs.Digits.{bit}
use Rattle.format.specs.Format.{format_of, stop_code_of}
use Rattle.frame.specs.Levels.{before_stop, levels, stop_pulses, frame, frame_length_of, frame_bits_of, level_of}
use Rattle.request.specs.declared.request.FrameAnswer.{FrameAnswer}
use Rattle.request.specs.Request.{length_asked, levels_asked, not_modelled, first_refusal, answer_of, request_of, open_levels, over_front, space_after}
use Rattle.format.proofs.Laws.Digits.{bit_small}
use Rattle.frame.proofs.Laws.Levels.{before_stop_most, length_before_stop, length_levels, levels_at, take_levels, frame_length}
use Rattle.frame.proofs.Laws.Register.{register_at}

pub request_length : (mr1 mr2 x : ℕ) → length (levels_asked mr1 mr2 x) ≡ (length_asked mr1 mr2).0
request_length mr1 mr2 x = length-map (frame true (format_of mr1) (stop_code_of mr2) x) bit ∙ frame_length true (format_of mr1) (stop_code_of mr2) x

-- The byte for pulse i is bit i / 16 of the register, whatever the stop.
pub open_at : (mr1 x n i : ℕ) → get_or (open_levels mr1 x n) i 1 ≡ bit (level_of (frame_bits_of (format_of mr1) x) (record { 0 = i / 16 }))
open_at mr1 x n i =
    let f : Format = format_of mr1 in
    let b = before_stop_most mr1 in
    let l : length (before_stop f x) ≤ 16 = rw (length_before_stop f x) (omega arith) in
    get_or-map bit (levels 16 n (before_stop f x)) i true ∙ ap bit (levels_at 16 n i (before_stop f x) (omega arith) ∙ sym (register_at f x (i / 16) l))

pub open_length : (mr1 x n : ℕ) → n ≤ length (open_levels mr1 x n)
open_length mr1 x n =
    rw (length-map (levels 16 n (before_stop (format_of mr1) x)) bit, length_levels 16 n (before_stop (format_of mr1) x)) (omega arith)

-- "one byte 0 or 1"
pub request_small : (mr1 mr2 x i : ℕ) → get_or (levels_asked mr1 mr2 x) i 1 ≤ 1
unfolding frame pick
request_small mr1 mr2 x i =
    let small = bit_small (level_of (frame_bits_of (format_of mr1) x) (record { 0 = i / 16 })) in
    rw (open_at mr1 x (stop_pulses true (format_of mr1) (stop_code_of mr2)) i) (omega arith)

-- one byte more is written over the front
pub over_more : (l s : List ℕ) (i : ℕ) → i < length s → i < length l → set (over_front l i s) i (get_or l i 1) ≡ over_front l (suc i) s
over_more l s i h k =
    rw (drop-cons s i 1 h, set_at (take i l) (get_or s i 1) (drop (suc i) s) (get_or l i 1) i (length-take-le i l (omega arith)), take-suc l i 1 k)
    (sym (append_snoc (take i l) (get_or l i 1) (drop (suc i) s)))

within : (setting : Bool) (n : ℕ) (l : Pulses) → (answer_of (first_refusal setting (ltb n l.0)) l).length.0 ≤ n
unfolding answer_of first_refusal pick
within true n l = zero-le
within false n l = go (ltb n l.0) refl
  where
    go : (t : Bool) → ltb n l.0 ≡ t → (answer_of (first_refusal false t) l).length.0 ≤ n
    go true e = zero-le
    go false e = ltb-false n l.0 e

-- The length answered lies within the space.
pub request_within : (mr1 mr2 n : ℕ) → (request_of mr1 mr2 n).length.0 ≤ n
unfolding request_of
request_within mr1 mr2 n = within (not_modelled mr1 mr2) n (length_asked mr1 mr2)

take_map : {A : Type 0} (f : A → ℕ) (n : ℕ) (l : List A) → take n (map f l) ≡ map f (take n l)
take_map f zero l = refl
take_map f (suc n) [] = refl
take_map f (suc n) (a ∷ l) = rw (take_map f n l)

-- as many of the open levels as the frame is long are the frame's
pub open_frame : (mr1 mr2 x : ℕ) → take (length_asked mr1 mr2).0 (open_levels mr1 x (length_asked mr1 mr2).0) ≡ levels_asked mr1 mr2 x
unfolding frame frame_length_of pick
open_frame mr1 mr2 x =
    let n : ℕ = stop_pulses true (format_of mr1) (stop_code_of mr2) in
    let bs : List Bool = before_stop (format_of mr1) x in
    rw (take_map bit, ← length_before_stop (format_of mr1) x, take_levels 16 n (16 * length bs + n) bs (omega arith))

-- The space holds as many levels as the answer says, the whole frame or none, and then what it held.
pub over_asked : (mr1 mr2 x : ℕ) (s : List ℕ) → let n = (request_of mr1 mr2 (length s)).length.0 in over_front (open_levels mr1 x n) n s ≡ space_after mr1 mr2 x s
unfolding request_of space_after answer_of pick
over_asked mr1 mr2 x s = go (eqb (request_of mr1 mr2 (length s)).number 0)
  where
    go : (t : Bool) → let n = (pick t (length_asked mr1 mr2) (record { 0 = 0 })).0 in over_front (open_levels mr1 x n) n s ≡ pick t (levels_asked mr1 mr2 x ++ drop (length_asked mr1 mr2).0 s) s
    go true = rw (open_frame mr1 mr2 x)
    go false = refl

pub over_answered : (mr1 mr2 x : ℕ) (s : List ℕ) (answer : FrameAnswer) → answer ≡ request_of mr1 mr2 (length s)
    → over_front (open_levels mr1 x answer.length.0) answer.length.0 s ≡ space_after mr1 mr2 x s
over_answered mr1 mr2 x s answer told = rw told (over_asked mr1 mr2 x s)
