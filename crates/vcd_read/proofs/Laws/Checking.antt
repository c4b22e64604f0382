-- The lines after the header, byte by byte. Assumes nothing.
use Prim.Native.Nat.{ℕ, ◌+◌, ◌-◌, ◌*◌, ◌≤◌, ◌<◌}
use mathlib.Core.Path.{◌≡◌, refl, ◌∙◌, ap}
use mathlib.Core.Bool.{Bool, true, ◌&&◌, ◌||◌, and-eq-true_iff}
use mathlib.Core.List.{List, [], ◌∷◌}
use native.Mathlib.Omega.{arith}
use lib.Dec.{eqb, ltb, leb}
use lib.ListN.{length, drop, get_or, drop_of_length-le}
use borrow.Author.Tests.{ltb-true, leb-true}
use Rattle.format.proofs.Laws.Pick.{pick_all, pick_known}
use Rattle.vcd_lines.specs.declared.body.Place.{Place}
use Rattle.vcd_lines.specs.declared.body.Place.TheVariants.{LineStart, Hash, Digits, Whole, Level, Code, Outside}
use Rattle.vcd_lines.specs.declared.body.Reading.{Reading}
use Rattle.text.specs.Numbers.{digit}
use Rattle.vcd_lines.specs.Body.{begun, first_digit, next_digit, must_end, coded, place_after, taken_of}
use Rattle.vcd_read.specs.declared.checking.Checked.{Checked}
use Rattle.vcd_read.specs.Scan.{checked_by, checked_of}
use Rattle.vcd_read.proofs.Laws.Starts.{from}

checked_cons : (known : ℕ → Bool) (x : Checked) (b : ℕ) (bs : List ℕ) → checked_of known x (b ∷ bs) ≡ checked_of known (checked_by x b (known b)) bs
unfolding checked_of
checked_cons known x b bs = refl

checked_nil : (known : ℕ → Bool) (x : Checked) → checked_of known x [] ≡ x
unfolding checked_of
checked_nil known x = refl

pub checked_next : (text : List ℕ) (i : ℕ) (known : ℕ → Bool) (x : Checked) → i < length text
    → checked_of known x (drop i text) ≡ checked_of known (checked_by x (get_or text i 0) (known (get_or text i 0))) (drop (i + 1) text)
checked_next text i known x h = ap (checked_of known x) (from text i h) ∙ checked_cons known x (get_or text i 0) (drop (i + 1) text)

pub checked_end : (text : List ℕ) (i : ℕ) (known : ℕ → Bool) (x : Checked) → length text ≤ i → checked_of known x (drop i text) ≡ x
checked_end text i known x h = ap (checked_of known x) (drop_of_length-le text h) ∙ checked_nil known x

-- ---- a time stays within its limit ----

abbrev pub Within : Place → Type 0
Within (Digits t) = t ≤ 4000000000
Within (Whole t) = t ≤ 4000000000
Within p = Unit {0}

end_within : (b : ℕ) → Within (must_end b)
unfolding must_end
end_within b = pick_all Within (eqb b 10) _ _ tt tt

begun_within : (b : ℕ) (timed : Bool) → Within (begun b timed)
unfolding begun
begun_within b timed = pick_all Within (eqb b 35) _ _ tt (pick_all Within (timed && (eqb b 48 || eqb b 49)) _ _ tt tt)

digit_small : (b : ℕ) → digit b ≡ true → b - 48 ≤ 9
digit_small b h = let u = ltb-true b 58 ((and-eq-true_iff (ltb 47 b) (ltb b 58)).0 h).1 in omega arith

first_within : (b : ℕ) → Within (first_digit b)
unfolding first_digit
first_within b =
    pick_all Within (eqb b 48) _ _ (omega arith)
    (pick_known Within (digit b) _ _ (λ e. let s = digit_small b e in omega arith) tt)

next_within : (t b : ℕ) → Within (next_digit t b)
unfolding next_digit
next_within t b =
    pick_all Within (digit b) _ _
    (pick_all Within (leb t 400000000) _ _ (pick_known Within (leb (t * 10 + (b - 48)) 4000000000) _ _ (λ e. leb-true _ _ e) tt) tt)
    (end_within b)

place_within : (p : Place) (timed : Bool) (b : ℕ) (known : Bool) → Within (place_after p timed b known)
unfolding coded
place_within LineStart timed b known = begun_within b timed
place_within Hash timed b known = first_within b
place_within (Digits t) timed b known = next_within t b
place_within (Whole t) timed b known = end_within b
place_within (Level v) timed b known = pick_all Within known _ _ tt tt
place_within (Code v c) timed b known = end_within b
place_within Outside timed b known = tt

pub time_within : (r : Reading) (b : ℕ) (known : Bool) → Within (taken_of r b known).place
unfolding taken_of
time_within r b known = place_within r.place r.timed b known
