-- The wire that a text begins with, by the test that decides; and the wires one after the other. Assumes nothing.
use Prim.Native.Nat.{ℕ, zero, suc, ◌+◌, ◌≤◌, ◌<◌, min}
use mathlib.Core.Path.{◌≡◌, refl, sym, ◌∙◌, ap}
use mathlib.Core.Bool.{Bool, true, false, ◌&&◌, false≢true, and-eq-true_iff}
use mathlib.Core.List.{List, [], ◌∷◌}
use native.Mathlib.Omega.{arith}
use lib.Dec.{eqb, ltb, leb}
use lib.ListN.{length, take, drop, get_or, get_or-eq_default, drop_of_length-le}
use lib.Seq.{get_or-drop, drop-drop}
use borrow.Author.Tests.{ltb-true, leb-true, leb-false}
use Rattle.format.specs.Pick.{pick}
use Rattle.vcd_read.specs.Wires.{starts, visible, name_of, var_words, end_words, name_here, named, wire_here, is_wire, wire_end}
use Rattle.vcd_read.specs.Wires.{wires_of, wires_end}
use Rattle.vcd_read.proofs.Laws.Starts.{name_take}

-- ---- no wire ----

if_none : (a b c : Bool) → (pick a false false ≡ false) × (pick a (pick b false false) false ≡ false) × (pick a (pick b (pick c false false) false) false ≡ false)
unfolding pick
if_none true true true = (refl, refl, refl)
if_none true true false = (refl, refl, refl)
if_none true false true = (refl, refl, refl)
if_none true false false = (refl, refl, refl)
if_none false true true = (refl, refl, refl)
if_none false true false = (refl, refl, refl)
if_none false false true = (refl, refl, refl)
if_none false false false = (refl, refl, refl)

and_false' : (b : Bool) → (b && false) ≡ false
and_false' true = refl
and_false' false = refl

module _ (text : List ℕ) where
  pub other_words : starts var_words text ≡ false → is_wire text ≡ false
  unfolding is_wire pick
  other_words h = rw h

  no_pair : (visible (get_or text 12 0) && eqb (get_or text 13 0) 32) ≡ false → is_wire text ≡ false
  unfolding is_wire pick
  no_pair h = rw h (if_none (starts var_words text) true true).0

  pub no_code : visible (get_or text 12 0) ≡ false → is_wire text ≡ false
  no_code h = no_pair (rw h)

  pub no_blank : eqb (get_or text 13 0) 32 ≡ false → is_wire text ≡ false
  no_blank h = no_pair (rw h (and_false' (visible (get_or text 12 0))))

  pub too_short : length text ≤ 12 → is_wire text ≡ false
  too_short h = no_code (rw (get_or-eq_default text 0 h))

  pub no_name : named (length (name_here text)) ≡ false → is_wire text ≡ false
  unfolding is_wire pick
  no_name h = rw h (if_none (starts var_words text) (visible (get_or text 12 0) && eqb (get_or text 13 0) 32) true).1

  pub no_end : starts end_words (drop (14 + length (name_here text)) text) ≡ false → is_wire text ≡ false
  unfolding is_wire pick
  no_end h = rw h (if_none (starts var_words text) (visible (get_or text 12 0) && eqb (get_or text 13 0) 32) (named (length (name_here text)))).2

  -- ---- a wire ----

  pub wire_is : starts var_words text ≡ true → visible (get_or text 12 0) ≡ true → eqb (get_or text 13 0) 32 ≡ true
      → named (length (name_here text)) ≡ true → starts end_words (drop (14 + length (name_here text)) text) ≡ true → is_wire text ≡ true
  unfolding is_wire pick
  wire_is a b c d e = rw (a, b, c, d, e)

taken_end : (t r : Bool) → pick t r false ≡ true → (t ≡ true) × (r ≡ true)
unfolding pick
taken_end true r h = (refl, h)
taken_end false r h = absurd (false≢true h)

-- ---- the pieces of a line, as they are taken off ----

module _ (text rest : List ℕ) (code : ℕ) (e : drop 12 text ≡ code ∷ rest) where
  pub code_at : get_or text 12 0 ≡ code
  code_at = sym (get_or-drop 12 text 0 0) ∙ ap (λ (l : List ℕ). get_or l 0 0) e

  after-code : drop 13 text ≡ rest
  after-code = sym (drop-drop 1 12 text) ∙ ap (drop 1) e

  pub blank_at : get_or text 13 0 ≡ get_or rest 0 0
  blank_at = sym (get_or-drop 13 text 0 0) ∙ ap (λ (l : List ℕ). get_or l 0 0) after-code

  pub name_at : drop 14 text ≡ drop 1 rest
  name_at = sym (drop-drop 1 13 text) ∙ ap (drop 1) after-code

module _ (text rest : List ℕ) (n : ℕ) (e : drop 14 text ≡ rest) (s : n ≡ length (name_of 33 rest)) where
  pub size_at : n ≡ length (name_here text)
  size_at = s ∙ ap (λ (l : List ℕ). length (name_of 33 l)) (sym e)

  pub name_there : take n rest ≡ name_here text
  name_there = rw s (sym (name_take 33 rest)) ∙ ap (name_of 33) (sym e)

  pub after_name : drop n rest ≡ drop (14 + length (name_here text)) text
  after_name = ap (drop n) (sym e) ∙ drop-drop n 14 text ∙ ap (λ (k : ℕ). drop (14 + k) text) size_at

pub after_line : (text : List ℕ) → drop 6 (drop (14 + length (name_here text)) text) ≡ drop (wire_end text) text
after_line text =
    let e : 14 + length (name_here text) + 6 ≡ wire_end text = omega arith in
    drop-drop 6 (14 + length (name_here text)) text ∙ ap (λ (k : ℕ). drop k text) e

-- ---- one after the other ----

pub wires_none : (n : ℕ) (text : List ℕ) → is_wire text ≡ false → (wires_of n text ≡ []) × (wires_end n text ≡ 0)
unfolding wires_of wires_end pick
wires_none zero text h = (refl, refl)
wires_none (suc n) text h = (rw h, rw h)

pub wires_zero : (text : List ℕ) → (wires_of 0 text ≡ []) × (wires_end 0 text ≡ 0)
unfolding wires_of wires_end
wires_zero text = (refl, refl)

pub wires_next : (n : ℕ) (text : List ℕ) → is_wire text ≡ true
    → (wires_of (suc n) text ≡ wire_here text ∷ wires_of n (drop (wire_end text) text))
    × (wires_end (suc n) text ≡ wire_end text + wires_end n (drop (wire_end text) text))
unfolding wires_of wires_end pick
wires_next n text h = (rw h, rw h)

-- the text after them
pub beyond_next : (n : ℕ) (text : List ℕ) → is_wire text ≡ true
    → drop (wires_end n (drop (wire_end text) text)) (drop (wire_end text) text) ≡ drop (wires_end (suc n) text) text
beyond_next n text h = rw (wires_next n text h).1 (drop-drop (wires_end n (drop (wire_end text) text)) (wire_end text) text)

pub wires_few : (n : ℕ) (text : List ℕ) → length (wires_of n text) ≤ n
unfolding wires_of pick
wires_few zero text = omega arith
wires_few (suc n) text = go (is_wire text) (wires_few n (drop (wire_end text) text))
  where
    go : (t : Bool) → length (wires_of n (drop (wire_end text) text)) ≤ n
        → length (pick t (wire_here text ∷ wires_of n (drop (wire_end text) text)) []) ≤ suc n
    go true h = omega arith
    go false h = omega arith

-- a code is a byte
pub code_small : (text : List ℕ) → is_wire text ≡ true → get_or text 12 0 < 256
unfolding is_wire
code_small text h =
    let b = (taken_end _ _ h).1 in
    let c = (taken_end _ _ b).0 in
    let v = ((and-eq-true_iff (visible (get_or text 12 0)) _).0 c).0 in
    let u = ((and-eq-true_iff (ltb 32 (get_or text 12 0)) _).0 v).1 in
    omega (arith, ltb-true (get_or text 12 0) 127 u)

-- a text that ends before its wires has none
pub from-wires : (text : List ℕ) (n : ℕ) → n ≡ min (length text) 46 → drop n text ≡ drop 46 text
from-wires text n e = go (leb (length text) 46) refl
  where
    go : (t : Bool) → leb (length text) 46 ≡ t → drop n text ≡ drop 46 text
    go true h =
        let l = leb-true (length text) 46 h in
        drop_of_length-le text (omega arith) ∙ sym (drop_of_length-le text l)
    go false h =
        let l = leb-false (length text) 46 h in
        let m : n ≡ 46 = omega arith in
        rw m
