-- A wire's line is read as the wire, and what is read as a wire is its line. By induction on the bytes, and on the wires. Assumes nothing.
use Prim.Native.Nat.{ℕ, zero, suc, ◌+◌, ◌≤◌, ◌<◌}
use mathlib.Core.Path.{◌≡◌, refl, sym, ◌∙◌, ap}
use mathlib.Core.Bool.{Bool, true, false, ◌&&◌, false≢true}
use mathlib.Core.List.{List, [], ◌∷◌, ◌++◌, append_assoc, append-nil}
use native.Mathlib.Omega.{arith}
use lib.Dec.{eqb, ltb}
use lib.ListN.{length, drop, get_or, length-append, take-append-drop, get_or-eq_default}
use lib.Seq.{drop-cons, drop-append_seam, drop-drop, drop-length}
use borrow.Author.Tests.{eq-eqb, eqb-true, lt-ltb, ltb-true, ltb-false}
use Rattle.format.specs.Pick.{pick}
use Rattle.text.specs.Bytes.{bytes_of}
use Rattle.vcd_text.specs.Header.{Wire, line_of, wire_line, wire_lines}
use Rattle.vcd_read.specs.Wires.{starts, visible, name_of, name_here, wire_here, var_words, end_words, named, is_wire, wire_end, wires_of, wires_end, same}
use Rattle.vcd_read.proofs.Laws.Starts.{name_take}
use Rattle.vcd_subset.specs.Subset.{Visible, AllVisible, Good}

-- ---- bytes ----

pub both : (x y : Bool) → (x && y) ≡ true → (x ≡ true) × (y ≡ true)
both true y h = (refl, h)
both false y h = absurd (false≢true h)

pub if_true : (t r : Bool) → pick t r false ≡ true → (t ≡ true) × (r ≡ true)
unfolding pick
if_true true r h = (refl, h)
if_true false r h = absurd (false≢true h)

pub visible_is : (c : ℕ) → Visible c → visible c ≡ true
visible_is c (l, m) = rw (lt-ltb 32 c (omega arith), lt-ltb c 127 (omega arith))

pub visible_back : (c : ℕ) → visible c ≡ true → Visible c
visible_back c h =
    let (l, m) = both (ltb 32 c) (ltb c 127) h in
    let a = ltb-true 32 c l in
    let b = ltb-true c 127 m in
    (omega arith, omega arith)

pub starts_own : (ws rest : List ℕ) → starts ws (ws ++ rest) ≡ true
unfolding starts pick
starts_own [] rest = refl
starts_own (w ∷ ws) rest = rw (eq-eqb w w refl) (starts_own ws rest)

pub starts_back : (ws text : List ℕ) → starts ws text ≡ true → text ≡ ws ++ drop (length ws) text
unfolding starts
starts_back [] text h = refl
starts_back (w ∷ ws) [] h = absurd (false≢true h)
starts_back (w ∷ ws) (b ∷ bs) h =
    let (e, r) = if_true (eqb w b) (starts ws bs) h in
    let same = eqb-true w b e in
    let rest = starts_back ws bs r in
    rw (same) (ap (λ (l : List ℕ). b ∷ l) rest)

pub same_own : (a : List ℕ) → same a a ≡ true
same_own a = rw (eq-eqb (length a) (length a) refl) (ap (starts a) (sym (append-nil a)) ∙ starts_own a [])

pub same_back : (a b : List ℕ) → same a b ≡ true → a ≡ b
same_back a b h =
    let (l, s) = both (eqb (length a) (length b)) (starts a b) h in
    let e = eqb-true (length a) (length b) l in
    let z : drop (length a) b ≡ [] = rw e (drop-length b) in
    sym (starts_back a b s ∙ rw z (append-nil a))

-- ---- a name ----

name_own : (n : ℕ) (name : List ℕ) (b : ℕ) (rest : List ℕ) → AllVisible name → visible b ≡ false → length name ≤ n → name_of n (name ++ b ∷ rest) ≡ name
unfolding name_of AllVisible pick
name_own zero [] b rest v e l = refl
name_own (suc n) [] b rest v e l = rw e
name_own zero (c ∷ name) b rest v e l = absurd (omega arith)
name_own (suc n) (c ∷ name) b rest (v, vs) e l = rw (visible_is c v, name_own n name b rest vs e (omega arith))

name_visible : (n : ℕ) (text : List ℕ) → AllVisible (name_of n text)
unfolding name_of AllVisible pick
name_visible zero text = tt
name_visible (suc n) [] = tt
name_visible (suc n) (b ∷ bs) = go (visible b) refl (name_visible n bs)
  where
    go : (t : Bool) → visible b ≡ t → AllVisible (name_of n bs) → AllVisible (pick t (b ∷ name_of n bs) [])
    go true e h = (visible_back b e, h)
    go false e h = tt

-- ---- a wire ----

module _ (w : Wire) (good : Good w) (rest : List ℕ) where
  abbrev line : List ℕ
  line = wire_line w ++ rest

  abbrev after : List ℕ
  after = w.name ++ (line_of " $end" ++ rest)

  -- the line, piece by piece
  line-is : line ≡ bytes_of "$var wire 1 " ++ w.code ∷ 32 ∷ after
  unfolding wire_line bytes_of
  line-is = ap (λ (l : List ℕ). bytes_of "$var wire 1 " ++ w.code ∷ 32 ∷ l) (append_assoc w.name (line_of " $end") rest)

  from-name : drop 14 line ≡ after
  unfolding bytes_of
  from-name = rw line-is

  code-there : get_or line 12 0 ≡ w.code
  unfolding bytes_of
  code-there = rw line-is

  space-there : get_or line 13 0 ≡ 32
  unfolding bytes_of
  space-there = rw line-is

  pub name-there : name_here line ≡ w.name
  unfolding line_of bytes_of
  name-there = rw from-name (name_own 33 w.name 32 _ good.name refl (let few = good.few in omega arith))

  pub wire-there : is_wire line ≡ true
  unfolding is_wire line_of pick
  wire-there =
      let some = good.some in
      let few = good.few in
      let begins : starts var_words line ≡ true = rw line-is (starts_own (bytes_of "$var wire 1 ") _) in
      let ends : drop (14 + length w.name) line ≡ line_of " $end" ++ rest =
      sym (drop-drop (length w.name) 14 line) ∙ rw from-name (drop-append_seam w.name (line_of " $end" ++ rest)) in
      rw (begins, code-there, visible_is w.code good.code, space-there, name-there, lt-ltb 0 (length w.name) (omega arith), lt-ltb (length w.name) 33 (omega arith), ends)
      (starts_own (line_of " $end") rest)

  pub here-there : wire_here line ≡ w
  here-there = rw (code-there, name-there)

  pub line-left : drop (wire_end line) line ≡ rest
  unfolding line_of bytes_of
  line-left =
      let e : length (name_here line) + 20 ≡ 14 + (length w.name + 6) = rw name-there (omega arith) in
      rw e (sym (drop-drop (length w.name + 6) 14 line) ∙ rw from-name
      (sym (drop-drop 6 (length w.name) after) ∙ ap (drop 6) (drop-append_seam w.name (line_of " $end" ++ rest))))

  pub line_length : wire_end line ≡ length (wire_line w)
  unfolding wire_line line_of bytes_of
  line_length = rw (name-there, length-append w.name (line_of " $end")) (omega arith)

-- what is read as a wire is its line
here_not_over : (l : List ℕ) (n : ℕ) → (get_or l n 0 ≡ 0 → ⊥) → n < length l
here_not_over l n h = go (ltb n (length l)) refl
  where
    go : (t : Bool) → ltb n (length l) ≡ t → n < length l
    go true e = ltb-true n (length l) e
    go false e = absurd (h (get_or-eq_default l 0 (ltb-false n (length l) e)))

record Pieces (text : List ℕ) : Type 0 where
  begins : starts var_words text ≡ true
  code : visible (get_or text 12 0) ≡ true
  space : get_or text 13 0 ≡ 32
  name : named (length (name_here text)) ≡ true
  ends : starts end_words (drop (14 + length (name_here text)) text) ≡ true

pieces : (text : List ℕ) → is_wire text ≡ true → Pieces text
unfolding is_wire
pieces text h =
    let (a, rest) = if_true (starts var_words text) _ h in
    let (b, more) = if_true (visible (get_or text 12 0) && eqb (get_or text 13 0) 32) _ rest in
    let (v, s) = both (visible (get_or text 12 0)) (eqb (get_or text 13 0) 32) b in
    let (n, e) = if_true (named (length (name_here text))) _ more in
    record { begins = a; code = v; space = eqb-true (get_or text 13 0) 32 s; name = n; ends = e }

module _ (text : List ℕ) (is : is_wire text ≡ true) where
  abbrev size : ℕ
  size = length (name_here text)

  name_back : drop 14 text ≡ name_here text ++ drop (14 + size) text
  name_back =
      sym (take-append-drop size (drop 14 text))
      ∙ ap (λ (l : List ℕ). l ++ drop size (drop 14 text)) (sym (name_take 33 (drop 14 text)))
      ∙ ap (λ (l : List ℕ). name_here text ++ l) (drop-drop size 14 text)

  end_back : drop (14 + size) text ≡ line_of " $end" ++ drop (wire_end text) text
  unfolding line_of bytes_of
  end_back =
      let e : 14 + size + 6 ≡ size + 20 = omega arith in
      starts_back end_words (drop (14 + size) text) (pieces text is).ends
      ∙ ap (λ (l : List ℕ). line_of " $end" ++ l) (drop-drop 6 (14 + size) text ∙ ap (λ (n : ℕ). drop n text) e)

  from-code : drop 12 text ≡ get_or text 12 0 ∷ 32 ∷ drop 14 text
  from-code =
      let (l, m) = visible_back (get_or text 12 0) (pieces text is).code in
      let s = (pieces text is).space in
      let a = here_not_over text 12 (λ (z : get_or text 12 0 ≡ 0). omega arith) in
      let b = here_not_over text 13 (λ (z : get_or text 13 0 ≡ 0). omega arith) in
      drop-cons text 12 0 a ∙ ap (λ (x : List ℕ). get_or text 12 0 ∷ x) (drop-cons text 13 0 b ∙ rw s)

  pub wire-good : Good (wire_here text)
  wire-good =
      let (s, f) = both (ltb 0 size) (ltb size 33) (pieces text is).name in
      let a = ltb-true 0 size s in
      let b = ltb-true size 33 f in
      record {
        code = visible_back (get_or text 12 0) (pieces text is).code;
        some = omega arith;
        few = omega arith;
        name = name_visible 33 (drop 14 text);
      }

  pub wire-back : text ≡ wire_line (wire_here text) ++ drop (wire_end text) text
  unfolding bytes_of
  wire-back =
      let rest = drop (wire_end text) text in
      let words : text ≡ var_words ++ drop 12 text = starts_back var_words text (pieces text is).begins in
      let tail : drop 14 text ≡ name_here text ++ (line_of " $end" ++ rest) = name_back ∙ ap (λ (l : List ℕ). name_here text ++ l) end_back in
      words
      ∙ ap (λ (l : List ℕ). var_words ++ l) (from-code ∙ ap (λ (l : List ℕ). get_or text 12 0 ∷ 32 ∷ l) tail)
      ∙ sym (line-is (wire_here text) wire-good rest)

-- ---- the wires ----

unfoldable pub AllGood : List Wire → Type 0
AllGood [] = Unit {0}
AllGood (w ∷ ws) = Good w × AllGood ws

pub wires_there : (n : ℕ) (ws : List Wire) (rest : List ℕ) → AllGood ws → length ws ≤ n → is_wire rest ≡ false
    → (wires_of n (wire_lines ws ++ rest) ≡ ws) × (wires_end n (wire_lines ws ++ rest) ≡ length (wire_lines ws))
unfolding wires_of wires_end wire_lines AllGood pick
wires_there zero [] rest g l e = (refl, refl)
wires_there (suc n) [] rest g l e = (rw e, rw e)
wires_there zero (w ∷ ws) rest g l e = absurd (omega arith)
wires_there (suc n) (w ∷ ws) rest (g, gs) l e =
    let (a, b) = wires_there n ws rest gs (omega arith) e in
    let more = wire_lines ws ++ rest in
    let split : wire_line w ++ wire_lines ws ++ rest ≡ wire_line w ++ more = append_assoc (wire_line w) (wire_lines ws) rest in
    let long : length (wire_line w) + length (wire_lines ws) ≡ length (wire_line w ++ wire_lines ws) = sym (length-append (wire_line w) (wire_lines ws)) in (
      rw (split, wire-there w g more, here-there w g more, line-left w g more, a),
      rw (split, wire-there w g more, line-left w g more, line_length w g more, b) long,
    )

pub wires_back : (n : ℕ) (text : List ℕ) → (text ≡ wire_lines (wires_of n text) ++ drop (wires_end n text) text) × AllGood (wires_of n text)
unfolding wires_of wires_end wire_lines AllGood pick
wires_back zero text = (refl, tt)
wires_back (suc n) text = go (is_wire text) refl (wires_back n (drop (wire_end text) text))
  where
    go : (t : Bool) → is_wire text ≡ t
        → (drop (wire_end text) text ≡ wire_lines (wires_of n (drop (wire_end text) text)) ++ drop (wires_end n (drop (wire_end text) text)) (drop (wire_end text) text))
        × AllGood (wires_of n (drop (wire_end text) text))
        → (text ≡ wire_lines (pick t (wire_here text ∷ wires_of n (drop (wire_end text) text)) []) ++ drop (pick t (wire_end text + wires_end n (drop (wire_end text) text)) 0) text)
        × AllGood (pick t (wire_here text ∷ wires_of n (drop (wire_end text) text)) [])
    go true e (h, g) =
        let rest = drop (wire_end text) text in (
          wire-back text e
              ∙ ap (λ (l : List ℕ). wire_line (wire_here text) ++ l) (h ∙ ap (λ (l : List ℕ). wire_lines (wires_of n rest) ++ l) (drop-drop (wires_end n rest) (wire_end text) text))
              ∙ sym (append_assoc (wire_line (wire_here text)) (wire_lines (wires_of n rest)) _),
          (wire-good text e, g),
        )
    go false e h = (refl, tt)
