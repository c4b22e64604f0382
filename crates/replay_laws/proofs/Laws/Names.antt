-- A word as a number in base 256 after a 1 is that number's bytes: so two words with one number are one word. Assumes nothing.
use Prim.Native.Nat.{ℕ, zero, suc, ◌+◌, ◌*◌, ◌/◌, ◌%◌, ◌≤◌, ◌<◌}
use mathlib.Core.Path.{◌≡◌, refl, sym, ap, ◌∙◌}
use mathlib.Core.Bool.{Bool, true, false, ◌&&◌, true≢false}
use mathlib.Core.List.{List, [], ◌∷◌, ◌++◌, append-nil}
use native.Mathlib.Omega.{arith}
use lib.Dec.{eqb, ltb}
use lib.ListN.{length, length-append}
use lib.Seq.{append_snoc}
use borrow.Author.Tests.{eqb-true, eq-eqb, ne_eqb, ltb-true, ltb-false, lt-ltb, le-ltb}
use Rattle.format.specs.Pick.{pick}
use Rattle.format.proofs.Laws.Pick.{pick_yes, pick_no}
use Rattle.format.proofs.Laws.Table.{rest}
use Rattle.replay_script.specs.Script.{same_of, reset_text, read_text, write_text, ack_text, pins_text, tick_text}
use Rattle.replay_script.specs.Reading.{name_after}
use Rattle.replay_script.specs.Agrees.{AreBytes}

-- what is read of a word, after what was read before
unfoldable pub name_from : ℕ → List ℕ → ℕ
name_from n [] = n
name_from n (b ∷ bs) = name_from (name_after n b) bs

pub name_snoc : (n : ℕ) (w : List ℕ) (b : ℕ) → name_from n (w ++ b ∷ []) ≡ name_after (name_from n w) b
unfolding name_from
name_snoc n [] b = refl
name_snoc n (c ∷ w) b = name_snoc (name_after n c) w b

-- the whole number, however long the word is
unfoldable spelled : ℕ → List ℕ → ℕ
spelled n [] = n
spelled n (b ∷ bs) = spelled (n * 256 + b) bs

unfoldable cap_of : ℕ → ℕ
cap_of n = pick (ltb n 0x1_0000_0000_0000) n 0x1_0000_0000_0000

cap_after : (n b : ℕ) → b < 256 → name_after (cap_of n) b ≡ cap_of (n * 256 + b)
unfolding name_after cap_of
cap_after n b h = go (ltb n 0x1_0000_0000_0000) (ltb n 0x100_0000_0000) refl refl
  where
    go : (t u : Bool) → ltb n 0x1_0000_0000_0000 ≡ t → ltb n 0x100_0000_0000 ≡ u → name_after (cap_of n) b ≡ cap_of (n * 256 + b)
    go true true e f =
        let l = ltb-true n 0x100_0000_0000 f in
        rw (pick_yes (ltb n 0x1_0000_0000_0000) n 0x1_0000_0000_0000 e)
        (pick_yes (ltb n 0x100_0000_0000) _ _ f ∙ sym (pick_yes (ltb (n * 256 + b) 0x1_0000_0000_0000) _ _ (lt-ltb (n * 256 + b) 0x1_0000_0000_0000 (omega arith))))
    go true false e f =
        let l = ltb-false n 0x100_0000_0000 f in
        rw (pick_yes (ltb n 0x1_0000_0000_0000) n 0x1_0000_0000_0000 e)
        (pick_no (ltb n 0x100_0000_0000) _ _ f ∙ sym (pick_no (ltb (n * 256 + b) 0x1_0000_0000_0000) _ _ (le-ltb (n * 256 + b) 0x1_0000_0000_0000 (omega arith))))
    go false u e f =
        let l = ltb-false n 0x1_0000_0000_0000 e in
        rw (pick_no (ltb n 0x1_0000_0000_0000) n 0x1_0000_0000_0000 e)
        (pick_no (ltb 0x1_0000_0000_0000 0x100_0000_0000) (0x1_0000_0000_0000 * 256 + b) 0x1_0000_0000_0000 refl ∙ sym (pick_no (ltb (n * 256 + b) 0x1_0000_0000_0000) _ _ (le-ltb (n * 256 + b) 0x1_0000_0000_0000 (omega arith))))

name_capped : (n : ℕ) (w : List ℕ) → AreBytes w → name_from (cap_of n) w ≡ cap_of (spelled n w)
unfolding name_from spelled AreBytes
name_capped n [] h = refl
name_capped n (b ∷ w) h = rw (cap_after n b h.0) (name_capped (n * 256 + b) w h.1)

-- the bytes of a number after its leading 1, before those that are known
unfoldable bytes_of : ℕ → ℕ → List ℕ → List ℕ
bytes_of zero n after = after
bytes_of (suc k) n after = pick (ltb n 256) after (bytes_of k (n / 256) (n % 256 ∷ after))

abbrev Spells : ℕ → List ℕ → Type 0
Spells n w = (1 ≤ n) × ((k : ℕ) (after : List ℕ) → length w ≤ k → bytes_of k n after ≡ w ++ after)

spells_more : (n b : ℕ) (w : List ℕ) → b < 256 → Spells n w → Spells (n * 256 + b) (w ++ b ∷ [])
unfolding bytes_of
spells_more n b w h s = (omega (arith, s.0), go)
  where
    go : (k : ℕ) (after : List ℕ) → length (w ++ b ∷ []) ≤ k → bytes_of k (n * 256 + b) after ≡ w ++ b ∷ [] ++ after
    go zero after l =
        let e = length-append w (b ∷ []) in
        absurd (omega arith)
    go (suc k) after l =
        let e = length-append w (b ∷ []) in
        let one = s.0 in
        let d : (n * 256 + b) / 256 ≡ n = omega arith in
        let m : (n * 256 + b) % 256 ≡ b = omega arith in
        pick_no (ltb (n * 256 + b) 256) _ _ (le-ltb (n * 256 + b) 256 (omega arith))
        ∙ rw (d, m) (s.1 k (b ∷ after) (omega arith) ∙ sym (append_snoc w b after))

spelled_spells : (n : ℕ) (p w : List ℕ) → AreBytes w → Spells n p → Spells (spelled n w) (p ++ w)
unfolding spelled AreBytes
spelled_spells n p [] h s = rw (append-nil p) s
spelled_spells n p (b ∷ w) h s = rw (← append_snoc p b w) (spelled_spells (n * 256 + b) (p ++ b ∷ []) w h.1 (spells_more n b p h.0 s))

one_spells : Spells 1 []
unfolding bytes_of pick
one_spells = (omega arith, go)
  where
    go : (k : ℕ) (after : List ℕ) → 0 ≤ k → bytes_of k 1 after ≡ after
    go zero after l = refl
    go (suc k) after l = refl

spelled_once : (w v : List ℕ) → AreBytes w → AreBytes v → spelled 1 w ≡ spelled 1 v → w ≡ v
spelled_once w v hw hv e =
    let k : ℕ = length w + length v in
    let a : bytes_of k (spelled 1 w) [] ≡ w ++ [] = (spelled_spells 1 [] w hw one_spells).1 k [] (omega arith) in
    let b : bytes_of k (spelled 1 v) [] ≡ v ++ [] = (spelled_spells 1 [] v hv one_spells).1 k [] (omega arith) in
    sym (append-nil w) ∙ sym a ∙ ap (λ (n : ℕ). bytes_of k n []) e ∙ b ∙ append-nil v

same_self : (w : List ℕ) → same_of w w ≡ true
unfolding same_of
same_self [] = refl
same_self (b ∷ w) = rw (eq-eqb b b refl) (same_self w)

same_first : (a b : Bool) → a && b ≡ true → a ≡ true
same_first true b e = refl
same_first false true e = e
same_first false false e = e

same_one : (w v : List ℕ) → same_of w v ≡ true → w ≡ v
unfolding same_of
same_one [] [] e = refl
same_one [] (c ∷ v) e = absurd (true≢false (sym e))
same_one (b ∷ w) [] e = absurd (true≢false (sym e))
same_one (b ∷ w) (c ∷ v) e = rw (eqb-true b c (same_first (eqb b c) (same_of w v) e), same_one w v (rest (eqb b c) (same_of w v) e))

name_is : (w : List ℕ) → AreBytes w → name_from 1 w ≡ cap_of (spelled 1 w)
unfolding cap_of pick
name_is w h = name_capped 1 w h

cap_short : (n : ℕ) → n < 0x1_0000_0000_0000 → cap_of n ≡ n
unfolding cap_of
cap_short n l = pick_yes (ltb n 0x1_0000_0000_0000) _ _ (lt-ltb _ _ l)

cap_whole : (n m : ℕ) → m < 0x1_0000_0000_0000 → cap_of n ≡ m → n ≡ m
unfolding cap_of
cap_whole n m l e = go (ltb n 0x1_0000_0000_0000) refl
  where
    go : (t : Bool) → ltb n 0x1_0000_0000_0000 ≡ t → n ≡ m
    go true f = sym (pick_yes (ltb n 0x1_0000_0000_0000) _ _ f) ∙ e
    go false f =
        let much : 0x1_0000_0000_0000 ≡ m = sym (pick_no (ltb n 0x1_0000_0000_0000) n 0x1_0000_0000_0000 f) ∙ e in
        absurd (omega arith)

-- what is read of a word is a short word's number exactly if it is that word
named : (w v : List ℕ) → AreBytes w → AreBytes v → spelled 1 v < 0x1_0000_0000_0000 → eqb (name_from 1 w) (spelled 1 v) ≡ same_of w v
named w v hw hv l = rw (name_is w hw) (go (same_of w v) refl)
  where
    go : (t : Bool) → same_of w v ≡ t → eqb (cap_of (spelled 1 w)) (spelled 1 v) ≡ t
    go true e = eq-eqb (cap_of (spelled 1 w)) (spelled 1 v) (ap (λ (u : List ℕ). cap_of (spelled 1 u)) (same_one w v e) ∙ cap_short (spelled 1 v) l)
    go false e =
        ne_eqb _ _ λ (f : cap_of (spelled 1 w) ≡ spelled 1 v).
        true≢false (sym (same_self v) ∙ (rw (spelled_once w v hw hv (cap_whole (spelled 1 w) (spelled 1 v) l f)) at e))

-- each name
pub named_reset : (w : List ℕ) → AreBytes w → eqb (name_from 1 w) 0x1_72_65_73_65_74 ≡ same_of w reset_text
unfolding spelled AreBytes
named_reset w h = named w reset_text h (omega arith) (omega arith)

pub named_read : (w : List ℕ) → AreBytes w → eqb (name_from 1 w) 0x1_72_65_61_64 ≡ same_of w read_text
unfolding spelled AreBytes
named_read w h = named w read_text h (omega arith) (omega arith)

pub named_write : (w : List ℕ) → AreBytes w → eqb (name_from 1 w) 0x1_77_72_69_74_65 ≡ same_of w write_text
unfolding spelled AreBytes
named_write w h = named w write_text h (omega arith) (omega arith)

pub named_ack : (w : List ℕ) → AreBytes w → eqb (name_from 1 w) 0x1_61_63_6b ≡ same_of w ack_text
unfolding spelled AreBytes
named_ack w h = named w ack_text h (omega arith) (omega arith)

pub named_pins : (w : List ℕ) → AreBytes w → eqb (name_from 1 w) 0x1_70_69_6e_73 ≡ same_of w pins_text
unfolding spelled AreBytes
named_pins w h = named w pins_text h (omega arith) (omega arith)

pub named_tick : (w : List ℕ) → AreBytes w → eqb (name_from 1 w) 0x1_74_69_63_6b ≡ same_of w tick_text
unfolding spelled AreBytes
named_tick w h = named w tick_text h (omega arith) (omega arith)
