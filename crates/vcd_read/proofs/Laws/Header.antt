-- The header by the test that decides, in the order of the tests. Assumes nothing.
use Prim.Native.Nat.{ℕ, ◌+◌, ◌≤◌}
use mathlib.Core.Path.{◌≡◌, refl, ap}
use mathlib.Core.Bool.{Bool, true, false}
use mathlib.Core.List.{List}
use lib.ListN.{length, drop, replicate}
use Rattle.std.specs.Prelude.{Option, None, Some, Result, Ok, Err, IfOk}
use Rattle.std.specs.Option.{ok_or}
use Rattle.format.specs.Pick.{pick}
use Rattle.format.proofs.Laws.Pick.{pick_all}
use Rattle.vcd_lines.specs.Body.{at_start}
use Rattle.vcd_read.specs.Wires.{starts, wires_in, wires_over, twice_of, code_named, filled}
use Rattle.vcd_read.specs.declared.checking.Checked.{Checked}
use Rattle.vcd_read.specs.declared.scanning.Header.{Header}
use Rattle.refusal.specs.declared.refusal.Refusal.{Refusal}
use Rattle.vcd_read.specs.declared.scanning.Scanned.{Scanned}
use Rattle.refusal.specs.declared.refusal.Refusal.TheVariants.{TextOutside}
use Rattle.vcd_read.specs.Scan.{open_words, close_words, few, named_header, header_read}
use Rattle.vcd_read.specs.Scan.{in_table, checked_of, unchecked, judged, scan_with, scan_of}
use Rattle.vcd_read.proofs.Laws.Table.{table_is, checked_alike}

module _ (text a b : List ℕ) where
  pub not_opened : starts open_words text ≡ false → header_read text a b ≡ None
  unfolding header_read pick
  not_opened e = rw e

  module _ (o : starts open_words text ≡ true) where
    pub not-sixteen : few (length (wires_in text)) ≡ false → header_read text a b ≡ None
    unfolding header_read pick
    not-sixteen e = rw (o, e)

    module _ (s : few (length (wires_in text)) ≡ true) where
      pub not-once : twice_of (wires_in text) ≡ true → header_read text a b ≡ None
      unfolding header_read pick
      not-once e = rw (o, s, e)

      module _ (t : twice_of (wires_in text) ≡ false) where
        pub not-closed : starts close_words (drop (wires_over text) text) ≡ false → header_read text a b ≡ None
        unfolding header_read pick
        not-closed e = rw (o, s, t, e)

        pub is-closed : starts close_words (drop (wires_over text) text) ≡ true
            → header_read text a b ≡ named_header (code_named a (wires_in text)) (code_named b (wires_in text)) (wires_over text + 35)
        unfolding header_read pick
        is-closed e = rw (o, s, t, e)

pub no_first : (b : Option ℕ) (n : ℕ) → named_header None b n ≡ None
unfolding named_header
no_first b n = refl

pub no_second : (a : Option ℕ) (n : ℕ) → named_header a None n ≡ None
unfolding named_header
no_second None n = refl
no_second (Some a) n = refl

pub both_named : (a b n : ℕ) → named_header (Some a) (Some b) n ≡ Some (record { code_a = a; code_b = b; body = n })
unfolding named_header
both_named a b n = refl

-- ---- the whole ----

pub not_inside : (text a b : List ℕ) → header_read text a b ≡ None → scan_of text a b ≡ Err TextOutside
unfolding scan_of scan_with
not_inside text a b h = rw h

pub is_inside : (text a b : List ℕ) (h : Header) (codes : List Bool) → header_read text a b ≡ Some h
    → codes ≡ filled (wires_in text) (replicate 256 false)
    → judged h (checked_of (in_table codes) unchecked (drop h.body text)) ≡ scan_of text a b
unfolding scan_of scan_with
is_inside text a b h codes eh ec =
    rw (ec, eh) (ap (judged h) (checked_alike _ _ (table_is 17 (drop 46 text)) unchecked (drop h.body text)))

pub or_refused : (o : Option Header) (r : Refusal) → Err r ≡ ok_or o TextOutside → (o ≡ None) × (r ≡ TextOutside)
or_refused None r e = let q : r ≡ TextOutside = cc in (refl, q)
or_refused (Some h) r e = cc

pub or_found : (o : Option Header) (h : Header) → Ok h ≡ ok_or o TextOutside → o ≡ Some h
or_found None h e = cc
or_found (Some g) h e = cc

-- what is judged inside begins where the header ends
pub judged_body : (h : Header) (x : Checked) (n : ℕ) → h.body ≤ n → IfOk (judged h x) (λ (s : Scanned). s.body ≤ n)
unfolding judged
judged_body h x n l =
    pick_all (λ (r : Result Scanned Refusal). IfOk r (λ (s : Scanned). s.body ≤ n)) (at_start x.reading.place) _ _
    (pick_all (λ (r : Result Scanned Refusal). IfOk r (λ (s : Scanned). s.body ≤ n)) x.times.late _ _ tt l) tt
