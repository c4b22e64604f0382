-- Our reader takes the texts of the subset, by their wires and lines, and no others. Assumes nothing.
use Prim.Native.Nat.{ℕ, suc, ◌≤◌}
use mathlib.Core.Path.{◌≡◌, refl, sym, ◌∙◌, ap}
use mathlib.Core.Bool.{Bool, true, false, ◌||◌, true≢false}
use mathlib.Core.List.{List, [], ◌∷◌, ◌++◌}
use native.Mathlib.Omega.{arith}
use lib.ListN.{length, drop}
use borrow.Author.Tests.{lt-leb, leb-false}
use Rattle.std.specs.Prelude.{Option, None, Some, Ok, Err}
use Rattle.format.specs.Pick.{pick}
use Rattle.vcd_text.specs.Header.{Wire, header_of}
use Rattle.vcd_text.specs.Lines.{Line, lines_text, times_of, RisesFrom}
use Rattle.vcd_text.specs.Lines.Line.{Time, Value}
use Rattle.vcd_read.specs.declared.checking.Checked.{Checked}
use Rattle.vcd_read.specs.declared.checking.Times.{Times}
use Rattle.refusal.specs.declared.refusal.Refusal.TheVariants.{TextOutside, TimeNotLater}
use Rattle.vcd_read.specs.declared.scanning.Scanned.{Scanned}
use Rattle.vcd_lines.specs.declared.body.Place.TheVariants.{LineStart}
use Rattle.vcd_lines.specs.Body.{started, at_start, read_all, lines_read}
use Rattle.vcd_read.specs.declared.scanning.Header.{Header}
use Rattle.vcd_read.specs.Wires.{wires_in, has_code}
use Rattle.vcd_read.specs.Scan.{header_read, body_checked, no_times, not_later, time_added, times_from, unchecked, judged, scan_with, scan_of}
use Rattle.vcd_lines.proofs.Laws.Reads.{readable, lines-read}
use Rattle.vcd_read.proofs.Laws.Header.{both_named}
use Rattle.vcd_read.proofs.Laws.Checks.{checked_reads}
use Rattle.vcd_subset.specs.Subset.{Named, GoodLines, Says}
use Rattle.vcd_subset.proofs.Header.{code_is, code_back, name_is, wires-in, header-left, header-there, header_back}
use Rattle.vcd_subset.proofs.Body.{start_only, body_back}

-- ---- the lines ----

pub lines_are : (ws : List Wire) (timed : Bool) (ls : List Line) → GoodLines ws timed ls → readable (has_code ws) timed ls
unfolding GoodLines readable
lines_are ws timed [] g = tt
lines_are ws timed (Time t ∷ ls) (h, g) = (h, lines_are ws true ls g)
lines_are ws timed (Value c v ∷ ls) (t, (h, g)) = (t, (code_is ws c h, lines_are ws timed ls g))

pub lines_back : (ws : List Wire) (timed : Bool) (ls : List Line) → readable (has_code ws) timed ls → GoodLines ws timed ls
unfolding GoodLines readable
lines_back ws timed [] g = tt
lines_back ws timed (Time t ∷ ls) (h, g) = (h, lines_back ws true ls g)
lines_back ws timed (Value c v ∷ ls) (t, (h, g)) = (t, (code_back ws c h, lines_back ws timed ls g))

-- ---- the times ----

-- times that rise come in time, and times that come in time rise
unfoldable least : Option ℕ → ℕ
least None = 0
least (Some last) = suc last

in_time : (x : Times) (ls : List Line) → x.late ≡ false → RisesFrom (least x.last) (times_of ls) → (times_from x ls).late ≡ false
unfolding RisesFrom times_of times_from least
in_time x [] e r = e
in_time x (Value c v ∷ ls) e r = in_time x ls e r
in_time x (Time t ∷ ls) e (l, r) = in_time (time_added x t) ls (ok x.last e l) r
  where
    ok : (o : Option ℕ) → x.late ≡ false → least o ≤ t → (x.late || not_later t o) ≡ false
    ok (Some last) e l = rw (e, lt-leb t last l)
    ok None e l = rw e

stays_late : (x : Times) (ls : List Line) → x.late ≡ true → (times_from x ls).late ≡ true
unfolding times_from
stays_late x [] e = e
stays_late x (Value c v ∷ ls) e = stays_late x ls e
stays_late x (Time t ∷ ls) e = stays_late (time_added x t) ls (rw e)

rise_back : (x : Times) (ls : List Line) → (times_from x ls).late ≡ false → RisesFrom (least x.last) (times_of ls)
unfolding RisesFrom times_of times_from least
rise_back x [] e = tt
rise_back x (Value c v ∷ ls) e = rise_back x ls e
rise_back x (Time t ∷ ls) e = (go (time_added x t).late refl, rise_back (time_added x t) ls e)
  where
    later : (o : Option ℕ) (late : Bool) → (late || not_later t o) ≡ false → least o ≤ t
    later (Some last) false h = leb-false t last h
    later None late h = omega arith
    later (Some last) true h = absurd (true≢false h)

    go : (late : Bool) → (time_added x t).late ≡ late → least x.last ≤ t
    go true h = absurd (true≢false (sym (stays_late (time_added x t) ls h) ∙ e))
    go false h = later x.last x.late h

pub rises_in_time : (ls : List Line) → RisesFrom 0 (times_of ls) → (times_from no_times ls).late ≡ false
unfolding least
rises_in_time ls r = in_time no_times ls refl r

pub in_time_rises : (ls : List Line) → (times_from no_times ls).late ≡ false → RisesFrom 0 (times_of ls)
unfolding least
in_time_rises ls e = rise_back no_times ls e

-- ---- the whole ----

module _ (text a b : List ℕ) (ws : List Wire) (ls : List Line) (says : Says text ws ls) where
  -- a wire that is named
  pub taken : (ca cb : ℕ) → Named ws a ca → Named ws b cb
      → scan_of text a b ≡ pick (times_from no_times ls).late (Err TimeNotLater)
      (Ok (record { code_a = ca; code_b = cb; body = length (header_of ws); times = times_from no_times ls }))
  unfolding scan_of scan_with judged pick
  taken ca cb na nb =
      let head : header_read text a b ≡ Some (record { code_a = ca; code_b = cb; body = length (header_of ws) }) =
      rw says.written (header-there ws (lines_text ls) says.wires says.some says.few a b
      ∙ rw ((name_is ws a ca says.wires na).0, (name_is ws b cb says.wires nb).0) (both_named ca cb (length (header_of ws)))) in
      let wires : wires_in text ≡ ws = rw says.written (wires-in ws (lines_text ls) says.wires says.some says.few) in
      let left : drop (length (header_of ws)) text ≡ lines_text ls = rw says.written (header-left ws (lines_text ls)) in
      let (said, place) = lines-read (has_code ws) ls false (lines_are ws false ls says.lines) in
      rw (head, wires, left, checked_reads (has_code ws) unchecked (lines_text ls), said, place)

-- ---- what is taken ----

-- the wires and lines that a text is read as
record Read (text a b : List ℕ) (h : Header) : Type 0 where
  wires : List Wire
  lines : List Line
  says : Says text wires lines
  first : Named wires a h.code_a
  second : Named wires b h.code_b

read_back : (text a b : List ℕ) (h : Header) → header_read text a b ≡ Some h → (body_checked text h.body).reading.place ≡ LineStart → Read text a b h
read_back text a b h i e =
    let found = header_back text a b h i in
    let ws = wires_in text in
    let bs = drop h.body text in
    let place : (read_all (has_code ws) started bs).place ≡ LineStart = ap (λ (x : Checked). x.reading.place) (sym (checked_reads (has_code ws) unchecked bs)) ∙ e in
    let (text_is, good) = body_back (has_code ws) bs false place in
    record {
      wires = ws;
      lines = lines_read (has_code ws) started bs;
      says = record {
        some = found.some;
        few = found.few;
        wires = found.wires;
        lines = lines_back ws false (lines_read (has_code ws) started bs) good;
        written = found.written ∙ ap (λ (l : List ℕ). header_of ws ++ l) text_is;
      };
      first = found.first;
      second = found.second;
    }

-- it is outside, or it is read
module _ (text a b : List ℕ) where
  abbrev Outside : Type 0
  Outside = (ws : List Wire) (ls : List Line) (ca cb : ℕ) → Says text ws ls → Named ws a ca → Named ws b cb → ⊥

  abbrev Inside : Type 0 → Type 0
  Inside A = (ws : List Wire) (ls : List Line) (ca cb : ℕ) → Says text ws ls → Named ws a ca → Named ws b cb → A

  either_way : {A : Type 0} → Inside A → (scan_of text a b ≡ Err TextOutside → A) → A
  unfolding scan_of scan_with judged pick
  either_way {A} read other = go (header_read text a b) refl
    where
      placed : (h : Header) → header_read text a b ≡ Some h → (p : Bool) → at_start (body_checked text h.body).reading.place ≡ p → A
      placed h e false q = other (rw (e, q))
      placed h e true q = let r = read_back text a b h e (start_only _ q) in read r.wires r.lines _ _ r.says r.first r.second

      go : (o : Option Header) → header_read text a b ≡ o → A
      go None e = other (rw e)
      go (Some h) e = placed h e (at_start (body_checked text h.body).reading.place) refl

  not-ten : (t : Bool) (s : Scanned) → pick t (Err TimeNotLater) (Ok s) ≡ Err TextOutside → ⊥
  unfolding pick
  not-ten true s e = cc
  not-ten false s e = cc

  refused-outside : scan_of text a b ≡ Err TextOutside → Outside
  refused-outside e ws ls ca cb says na nb =
      not-ten (times_from no_times ls).late _ (sym (taken text a b ws ls says ca cb na nb) ∙ e)

  pub outside : Outside → scan_of text a b ≡ Err TextOutside
  outside none = either_way (λ ws ls ca cb says na nb. absurd (none ws ls ca cb says na nb)) (λ e. e)

  pub told : {A : Type 0} → Inside A → (Outside → A) → A
  told {A} read other = either_way read (λ (e : scan_of text a b ≡ Err TextOutside). other (refused-outside e))
