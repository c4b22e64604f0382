-- Text after text: what is put after what was put is put with it. Assumes nothing.
use Prim.Native.Nat.{ℕ, suc, ◌+◌, ◌≤◌}
use mathlib.Core.Path.{◌≡◌, refl, sym, ◌∙◌, ap}
use mathlib.Core.List.{List, [], ◌∷◌, ◌++◌}
use native.Mathlib.Omega.{arith}
use lib.ListN.{length, take, drop, set, length-append}
use lib.Seq.{sets, sets-eq, length-sets, take-append_seam}
use Rattle.text.specs.Puts.{Puts}

pub sets_append : (l : List ℕ) (i : ℕ) (xs ys : List ℕ) → sets l i (xs ++ ys) ≡ sets (sets l i xs) (i + length xs) ys
sets_append l i [] ys = let e : i + 0 ≡ i = omega arith in rw e
sets_append l i (x ∷ xs) ys =
    let e : i + suc (length xs) ≡ suc i + length xs = omega arith in
    sets_append (set l i x) (suc i) xs ys ∙ rw e

-- nothing is put, and one byte
pub puts_none : (at : ℕ) (s : List ℕ) → Puts at [] s s at
puts_none at s = record { ends = omega arith; space = refl }

pub puts_one : (at byte end : ℕ) (s t : List ℕ) → end ≡ at + 1 → t ≡ set s at byte → Puts at (byte ∷ []) s t end
puts_one at byte end s t h e = record { ends = omega arith; space = e }

-- text, and more after it
pub puts_then : {at mid end : ℕ} {x y s t u : List ℕ} → Puts at x s t mid → Puts mid y t u end → Puts at (x ++ y) s u end
puts_then {at} {mid} {end} {x} {y} {s} {t} {u} p q =
    record {
      ends = let a = p.ends in let b = q.ends in simp length-append (omega arith);
      space = q.space ∙ rw (p.space, p.ends) (sym (sets_append s at x y));
    }

-- as another name of the same text
pub puts_as : {at end : ℕ} {x y s t : List ℕ} → x ≡ y → Puts at x s t end → Puts at y s t end
puts_as {at} {end} {x} {y} {s} {t} e p = rw (sym e) p

pub puts_length : {at end : ℕ} {x s t : List ℕ} → Puts at x s t end → length t ≡ length s
puts_length {at} {end} {x} {s} {t} p = ap length p.space ∙ length-sets s at x

-- the whole of a text in a space that holds it
pub puts_whole : {end : ℕ} {x s t : List ℕ} → Puts 0 x s t end → length x ≤ length s → t ≡ x ++ drop (length x) s
puts_whole {end} {x} {s} {t} p h =
    let e : 0 + length x ≡ length x = omega arith in
    p.space ∙ rw e at (sets-eq x s 0 (omega arith))

-- and of what stands at its front then
pub puts_front : {end : ℕ} {x s t : List ℕ} → Puts 0 x s t end → end ≤ length s
    → ((end ≤ length t) × (end ≡ length (take end t))) × (take end t ≡ x)
puts_front {end} {x} {s} {t} p h =
    let e : end ≡ length x = p.ends ∙ omega arith in
    let front : take end t ≡ x = rw (e, puts_whole p (omega arith)) (take-append_seam x _) in
    let long = puts_length p in
    ((omega arith, e ∙ ap length (sym front)), front)

-- ---- text that is put piece by piece: what is left leads to the end that is asked ----

pub record Left (at : ℕ) (whole before : List ℕ) (next : ℕ) (rest now : List ℕ) : Type 0 where
  pub ends : next + length rest ≡ at + length whole
  pub space : sets now next rest ≡ sets before at whole

pub left_all : (at : ℕ) (whole s : List ℕ) → Left at whole s at whole s
left_all at whole s = record { ends = refl; space = refl }

pub left_as : {at next : ℕ} {whole s x y now : List ℕ} → x ≡ y → Left at whole s next x now → Left at whole s next y now
left_as {at} {next} {whole} {s} {x} {y} {now} e p = rw (sym e) p

-- one piece more
pub left_then : {at next mid : ℕ} {whole s x y now later : List ℕ} → Left at whole s next (x ++ y) now → Puts next x now later mid
    → Left at whole s mid y later
left_then {at} {next} {mid} {whole} {s} {x} {y} {now} {later} l p =
    record {
      ends = let a = p.ends in let b : next + (length x + length y) ≡ at + length whole = rw length-append at l.ends in omega arith;
      space = rw (p.space, p.ends) (sym (sets_append now next x y) ∙ l.space);
    }

-- the last piece
pub left_last : {at next end : ℕ} {whole s x now later : List ℕ} → Left at whole s next x now → Puts next x now later end
    → Puts at whole s later end
left_last {at} {next} {end} {whole} {s} {x} {now} {later} l p = record { ends = p.ends ∙ l.ends; space = p.space ∙ l.space }

pub left_none : {at next : ℕ} {whole s now : List ℕ} → Left at whole s next [] now → Puts at whole s now next
left_none {at} {next} {whole} {s} {now} l = left_last l (puts_none next now)
