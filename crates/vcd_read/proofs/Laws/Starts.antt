-- What stands at the beginning of a text, as the definitions and as the library say it. Assumes nothing.
use Prim.Native.Nat.{ℕ, zero, suc, ◌+◌, ◌≤◌, ◌<◌}
use mathlib.Core.Path.{◌≡◌, refl, sym, ◌∙◌, ap}
use mathlib.Core.Bool.{Bool, true, false, ◌&&◌, cond}
use mathlib.Core.List.{List, [], ◌∷◌}
use native.Mathlib.Numerals.{add-one}
use native.Mathlib.Omega.{arith}
use lib.Dec.{eqb, eqb-zero-suc, eqb-suc-zero, eqb-suc-suc}
use lib.ListN.{length, take, drop, get_or}
use lib.Seq.{drop-cons}
use borrow.Author.Tests.{eq-eqb, ne_eqb, eqb-true, eqb-false}
use Rattle.std.proofs.lemmas.Bool.Decides.{nat_tests}
use Rattle.std.specs.Char.{is_ascii_graphic}
use Rattle.std.specs.Cmp.Lexicographic.{pointwise}
use Rattle.std.specs.List.{prefix_len}
use Rattle.format.specs.Pick.{pick}
use Rattle.vcd_read.specs.Wires.{starts, visible, name_of, same}

-- the list from a place on, where it goes on
pub from : (l : List ℕ) (i : ℕ) → i < length l → drop i l ≡ get_or l i 0 ∷ drop (i + 1) l
from l i h = rw add-one (drop-cons l i 0 h)

-- ---- bytes that stand there ----

both_pick : (t r : Bool) → (t && r) ≡ pick t r false
unfolding pick
both_pick true r = refl
both_pick false r = refl

eqb_turned : (x y : ℕ) → eqb x y ≡ eqb y x
eqb_turned x y = go (eqb y x) refl
  where
    go : (t : Bool) → eqb y x ≡ t → eqb x y ≡ t
    go true e = eq-eqb x y (sym (eqb-true y x e))
    go false e = ne_eqb x y (λ (h : x ≡ y). eqb-false y x e (sym h))

-- `starts_with`
pub starts_is : (ws text : List ℕ) → pointwise eqb ws (take (length ws) text) ≡ starts ws text
unfolding starts
starts_is [] text = refl
starts_is (w ∷ ws) [] = refl
starts_is (w ∷ ws) (b ∷ bs) = ap (λ (r : Bool). eqb w b && r) (starts_is ws bs) ∙ both_pick (eqb w b) (starts ws bs)

-- `strip_prefix`
pub stripped_is : (ws text : List ℕ) → pointwise eqb (take (length ws) text) ws ≡ starts ws text
unfolding starts
stripped_is [] text = refl
stripped_is (w ∷ ws) [] = refl
stripped_is (w ∷ ws) (b ∷ bs) =
    ap (λ (r : Bool). r && pointwise eqb (take (length ws) bs) ws) (eqb_turned b w)
    ∙ ap (λ (r : Bool). eqb w b && r) (stripped_is ws bs)
    ∙ both_pick (eqb w b) (starts ws bs)

-- a space
pub blank_is : (text : List ℕ) → starts (32 ∷ []) text ≡ eqb (get_or text 0 0) 32
unfolding starts
blank_is [] = refl
blank_is (b ∷ bs) = sym (both_pick (eqb 32 b) true) ∙ go (eqb 32 b) ∙ eqb_turned 32 b
  where
    go : (t : Bool) → (t && true) ≡ t
    go true = refl
    go false = refl

-- ---- the characters of a name ----

-- `is_ascii_graphic`
pub visible_is : (b : ℕ) → is_ascii_graphic b ≡ visible b
visible_is b = grind (arith, nat_tests)

-- `take_while`
pub name_is : (n : ℕ) (text : List ℕ) → take (prefix_len is_ascii_graphic (take n text)) (take n text) ≡ name_of n text
unfolding name_of pick
name_is zero text = refl
name_is (suc n) [] = refl
name_is (suc n) (b ∷ bs) = rw (visible_is b) (go (visible b) (name_is n bs))
  where
    go : (t : Bool) → take (prefix_len is_ascii_graphic (take n bs)) (take n bs) ≡ name_of n bs
        → take (cond t (1 + prefix_len is_ascii_graphic (take n bs)) 0) (b ∷ take n bs) ≡ pick t (b ∷ name_of n bs) []
    go true h = let e : 1 + prefix_len is_ascii_graphic (take n bs) ≡ suc (prefix_len is_ascii_graphic (take n bs)) = omega arith in rw e (ap (λ (r : List ℕ). b ∷ r) h)
    go false h = refl

-- a name is what the text begins with, and no longer than it
pub name_take : (n : ℕ) (l : List ℕ) → name_of n l ≡ take (length (name_of n l)) l
unfolding name_of pick
name_take zero l = refl
name_take (suc n) [] = refl
name_take (suc n) (b ∷ l) = go (visible b) (name_take n l)
  where
    go : (t : Bool) → name_of n l ≡ take (length (name_of n l)) l
        → pick t (b ∷ name_of n l) [] ≡ take (length (pick t (b ∷ name_of n l) [])) (b ∷ l)
    go true h = ap (λ (r : List ℕ). b ∷ r) h
    go false h = refl

pub name_within : (n : ℕ) (text : List ℕ) → length (name_of n text) ≤ length text
unfolding name_of pick
name_within zero text = omega arith
name_within (suc n) [] = omega arith
name_within (suc n) (b ∷ bs) = go (visible b) (name_within n bs)
  where
    go : (t : Bool) → length (name_of n bs) ≤ length bs → length (pick t (b ∷ name_of n bs) []) ≤ suc (length bs)
    go true h = omega arith
    go false h = omega arith

-- two names are the same as `==` has it
pub same_is : (a b : List ℕ) → pointwise eqb b a ≡ same a b
unfolding starts pick
same_is [] [] = refl
same_is [] (y ∷ b) = rw eqb-zero-suc
same_is (x ∷ a) [] = rw eqb-suc-zero
same_is (x ∷ a) (y ∷ b) =
    ap (λ (r : Bool). r && pointwise eqb b a) (eqb_turned y x)
    ∙ ap (λ (r : Bool). eqb x y && r) (same_is a b)
    ∙ rw (eqb-suc-suc (length a) (length b)) (go (eqb x y) (eqb (length a) (length b)) (starts a b))
  where
    go : (t l r : Bool) → (t && (l && r)) ≡ (l && pick t r false)
    go true l r = refl
    go false true r = refl
    go false false r = refl
