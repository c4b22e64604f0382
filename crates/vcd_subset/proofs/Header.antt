-- A header is read as its wires, and what is read as a header is theirs. Piece by piece, as the reader looks at it. Assumes nothing.
use Prim.Native.Nat.{ℕ, zero, suc, ◌+◌, ◌≤◌, ◌<◌}
use mathlib.Core.Path.{◌≡◌, refl, sym, ◌∙◌, ap}
use mathlib.Core.Bool.{Bool, true, false, ◌&&◌, ◌||◌, true≢false, false≢true}
use mathlib.Core.List.{List, [], ◌∷◌, ◌++◌, append_assoc, append-nil}
use native.Mathlib.Omega.{arith}
use lib.Dec.{eqb, ltb}
use lib.ListN.{length, drop, get_or, length-append}
use lib.Seq.{drop-append_seam, drop-drop}
use borrow.Author.Tests.{eq-eqb, ne_eqb, eqb-true, eqb-false, lt-ltb, ltb-true}
use Rattle.std.specs.Prelude.{Option, None, Some}
use Rattle.format.specs.Pick.{pick}
use Rattle.text.specs.Bytes.{bytes_of}
use Rattle.vcd_text.specs.Header.{Wire, line_of, wire_lines, header_of}
use Rattle.vcd_read.specs.declared.scanning.Header.{Header}
use Rattle.vcd_read.specs.Wires.{starts, is_wire, wires_end, wires_in, wires_over, same, clash_of, twice_of, has_code, code_named}
use Rattle.vcd_read.specs.Scan.{open_words, close_words, named_header, header_read}
use Rattle.vcd_subset.specs.Subset.{Visible, Apart, GoodWires, HasCode, Named}
use Rattle.vcd_subset.proofs.Wires.{both, starts_own, starts_back, same_own, same_back, AllGood, wires_there, wires_back}

-- ---- "each once" ----

neither : (x y : Bool) → (x || y) ≡ false → (x ≡ false) × (y ≡ false)
neither false y h = (refl, h)
neither true y h = absurd (true≢false h)

not_same : (a b : List ℕ) → (b ≡ a → ⊥) → same a b ≡ false
not_same a b h = go (same a b) refl
  where
    go : (t : Bool) → same a b ≡ t → same a b ≡ false
    go true e = absurd (h (sym (same_back a b e)))
    go false e = e

not_same_back : (a b : List ℕ) → same a b ≡ false → b ≡ a → ⊥
not_same_back a b h e = true≢false (sym (same_own a) ∙ ap (same a) (sym e) ∙ h)

apart_is : (w : Wire) (ws : List Wire) → Apart w ws → clash_of w ws ≡ false
unfolding clash_of Apart pick
apart_is w [] h = refl
apart_is w (v ∷ vs) (c, (n, h)) = rw (ne_eqb v.code w.code c, not_same w.name v.name n) (apart_is w vs h)

unpicked : (t r : Bool) → pick t true r ≡ false → (t ≡ false) × (r ≡ false)
unfolding pick
unpicked false r h = (refl, h)
unpicked true r h = absurd (true≢false h)

apart_back : (w : Wire) (ws : List Wire) → clash_of w ws ≡ false → Apart w ws
unfolding clash_of Apart
apart_back w [] h = tt
apart_back w (v ∷ vs) h =
    let (t, r) = unpicked (eqb v.code w.code || same w.name v.name) (clash_of w vs) h in
    let (c, n) = neither (eqb v.code w.code) (same w.name v.name) t in
    (eqb-false v.code w.code c, (not_same_back w.name v.name n, apart_back w vs r))

once_is : (ws : List Wire) → GoodWires ws → (twice_of ws ≡ false) × AllGood ws
unfolding twice_of GoodWires AllGood pick
once_is [] h = (refl, tt)
once_is (w ∷ ws) (g, (a, h)) = let (t, gs) = once_is ws h in (rw (apart_is w ws a) t, (g, gs))

once_back : (ws : List Wire) → twice_of ws ≡ false → AllGood ws → GoodWires ws
unfolding twice_of GoodWires AllGood
once_back [] h g = tt
once_back (w ∷ ws) h (g, gs) =
    let (a, r) = unpicked (clash_of w ws) (twice_of ws) h in
    (g, (apart_back w ws a, once_back ws r gs))

-- ---- codes and names ----

code_at : (ws : List Wire) (c k : ℕ) → k < length ws → (get_or ws k (record { code = c; name = [] })).code ≡ c → has_code ws c ≡ true
unfolding has_code pick
code_at [] c k l e = absurd (omega arith)
code_at (w ∷ ws) c zero l e = rw (eq-eqb w.code c e)
code_at (w ∷ ws) c (suc k) l e = go (eqb w.code c) (code_at ws c k (omega arith) e)
  where
    go : (t : Bool) → has_code ws c ≡ true → pick t true (has_code ws c) ≡ true
    go true h = refl
    go false h = h

pub code_is : (ws : List Wire) (c : ℕ) → HasCode ws c → has_code ws c ≡ true
code_is ws c h = code_at ws c h.place h.within h.code

pub code_back : (ws : List Wire) (c : ℕ) → has_code ws c ≡ true → HasCode ws c
unfolding has_code pick
code_back [] c h = absurd (false≢true h)
code_back (w ∷ ws) c h = go (eqb w.code c) refl h (code_back ws c)
  where
    go : (t : Bool) → eqb w.code c ≡ t → pick t true (has_code ws c) ≡ true → (has_code ws c ≡ true → HasCode ws c) → HasCode (w ∷ ws) c
    go true e p r = record { place = 0; within = omega arith; code = eqb-true w.code c e }
    go false e p r = let q = r p in record { place = suc q.place; within = (let l = q.within in omega arith); code = q.code }

-- a name that none of these has
apart_name : (w : Wire) (ws : List Wire) (name : List ℕ) (c k : ℕ) → Apart w ws → k < length ws
    → get_or ws k (record { code = c; name = name }) ≡ record { code = c; name = name } → same name w.name ≡ false
unfolding Apart
apart_name w [] name c k h l e = absurd (omega arith)
apart_name w (v ∷ vs) name c zero (q, (n, h)) l e =
    not_same name w.name (λ (z : w.name ≡ name). n (ap (λ (x : Wire). x.name) e ∙ sym z))
apart_name w (v ∷ vs) name c (suc k) (q, (n, h)) l e = apart_name w vs name c k h (omega arith) e

name_at : (ws : List Wire) (name : List ℕ) (c k : ℕ) → GoodWires ws → k < length ws
    → get_or ws k (record { code = c; name = name }) ≡ record { code = c; name = name } → (code_named name ws ≡ Some c) × Visible c
unfolding code_named GoodWires pick
name_at [] name c k g l e = absurd (omega arith)
name_at (w ∷ ws) name c zero (g, (a, gs)) l e =
    let n : w.name ≡ name = ap (λ (x : Wire). x.name) e in
    let q : w.code ≡ c = ap (λ (x : Wire). x.code) e in
    (rw (n, q, same_own name), (rw q at g).code)
name_at (w ∷ ws) name c (suc k) (g, (a, gs)) l e =
    let (found, v) = name_at ws name c k gs (omega arith) e in
    (rw (apart_name w ws name c k a (omega arith) e) found, v)

pub name_is : (ws : List Wire) (name : List ℕ) (c : ℕ) → GoodWires ws → Named ws name c → (code_named name ws ≡ Some c) × Visible c
name_is ws name c g h = name_at ws name c h.place g h.within h.wire

pub name_back : (ws : List Wire) (name : List ℕ) (c : ℕ) → code_named name ws ≡ Some c → Named ws name c
unfolding code_named pick
name_back [] name c h = cc
name_back (w ∷ ws) name c h = go (same name w.name) refl h (name_back ws name c)
  where
    go : (t : Bool) → same name w.name ≡ t → pick t (Some w.code) (code_named name ws) ≡ Some c
        → (code_named name ws ≡ Some c → Named ws name c) → Named (w ∷ ws) name c
    go true e n r = let q : w.code ≡ c = cc in record { place = 0; within = omega arith; wire = rw (sym (same_back name w.name e), q) }
    go false e n r = let q = r n in record { place = suc q.place; within = (let l = q.within in omega arith); wire = q.wire }

-- ---- the header, piece by piece ----

header_is : (ws : List Wire) (rest : List ℕ) → header_of ws ++ rest ≡ open_words ++ (wire_lines ws ++ (close_words ++ rest))
unfolding header_of
header_is ws rest =
    let a = line_of "$timescale 1 ns $end" ++ line_of "$scope module duart $end" in
    let u = line_of "$upscope $end" in
    let e = line_of "$enddefinitions $end" in
    append_assoc (a ++ wire_lines ws ++ u) e rest
    ∙ append_assoc (a ++ wire_lines ws) u (e ++ rest)
    ∙ append_assoc a (wire_lines ws) (u ++ (e ++ rest))
    ∙ ap (λ (l : List ℕ). a ++ (wire_lines ws ++ l)) (sym (append_assoc u e rest))

close_no_wire : (rest : List ℕ) → is_wire (close_words ++ rest) ≡ false
unfolding is_wire starts line_of bytes_of pick
close_no_wire rest = refl

pub header_length : (ws : List Wire) → length (header_of ws) ≡ 46 + length (wire_lines ws) + 35
unfolding line_of bytes_of
header_length ws =
    ap length (sym (append-nil (header_of ws)) ∙ header_is ws [])
    ∙ length-append open_words (wire_lines ws ++ (close_words ++ []))
    ∙ rw (length-append (wire_lines ws) (close_words ++ [])) (omega arith)

module _ (ws : List Wire) (rest : List ℕ) where
  abbrev text : List ℕ
  text = header_of ws ++ rest

  from-wires : drop 46 text ≡ wire_lines ws ++ (close_words ++ rest)
  unfolding line_of bytes_of
  from-wires = rw (header_is ws rest)

  pub header-left : drop (length (header_of ws)) text ≡ rest
  header-left = drop-append_seam (header_of ws) rest

  module _ (good : GoodWires ws) (some : 1 ≤ length ws) (few : length ws ≤ 16) where
    pub wires-in : wires_in text ≡ ws
    wires-in = rw from-wires (wires_there 17 ws (close_words ++ rest) (once_is ws good).1 (omega arith) (close_no_wire rest)).0

    wires-over : wires_over text ≡ 46 + length (wire_lines ws)
    wires-over = rw (from-wires, (wires_there 17 ws (close_words ++ rest) (once_is ws good).1 (omega arith) (close_no_wire rest)).1)

    from-close : drop (wires_over text) text ≡ close_words ++ rest
    from-close =
        rw wires-over
        (sym (drop-drop (length (wire_lines ws)) 46 text) ∙ rw from-wires (drop-append_seam (wire_lines ws) (close_words ++ rest)))

    pub header-there : (a b : List ℕ) → header_read text a b ≡ named_header (code_named a ws) (code_named b ws) (length (header_of ws))
    unfolding header_read pick
    header-there a b =
        let begins : starts open_words text ≡ true = rw (header_is ws rest) (starts_own open_words (wire_lines ws ++ (close_words ++ rest))) in
        let ends : starts close_words (drop (wires_over text) text) ≡ true = rw from-close (starts_own close_words rest) in
        let long : wires_over text + 35 ≡ length (header_of ws) = rw wires-over (sym (header_length ws)) in
        rw (begins, ends, long, wires-in, lt-ltb 0 (length ws) some, lt-ltb (length ws) 17 (omega arith), (once_is ws good).0)

-- ---- what is read as a header ----

pub record Found (text a b : List ℕ) (h : Header) : Type 0 where
  pub some : 1 ≤ length (wires_in text)
  pub few : length (wires_in text) ≤ 16
  pub wires : GoodWires (wires_in text)
  pub first : Named (wires_in text) a h.code_a
  pub second : Named (wires_in text) b h.code_b
  pub written : text ≡ header_of (wires_in text) ++ drop h.body text

then_in : (t : Bool) (x : Option Header) (h : Header) → pick t x None ≡ Some h → (t ≡ true) × (x ≡ Some h)
unfolding pick
then_in true x h e = (refl, e)
then_in false x h e = cc

else_in : (t : Bool) (x : Option Header) (h : Header) → pick t None x ≡ Some h → (t ≡ false) × (x ≡ Some h)
unfolding pick
else_in false x h e = (refl, e)
else_in true x h e = cc

named_in : (a b : Option ℕ) (n : ℕ) (h : Header) → named_header a b n ≡ Some h → (a ≡ Some h.code_a) × (b ≡ Some h.code_b) × (h.body ≡ n)
unfolding named_header
named_in None b n h e = cc
named_in (Some a) None n h e = cc
named_in (Some a) (Some b) n h e =
    let r : record { code_a = a; code_b = b; body = n } ≡ h = cc in
    (ap (λ (x : Header). Some x.code_a) r, ap (λ (x : Header). Some x.code_b) r, sym (ap (λ (x : Header). x.body) r))

pub header_back : (text a b : List ℕ) (h : Header) → header_read text a b ≡ Some h → Found text a b h
unfolding header_read line_of bytes_of
header_back text a b h e =
    let ws = wires_in text in
    let (begins, e1) = then_in (starts open_words text) _ h e in
    let (size, e2) = then_in (ltb 0 (length ws) && ltb (length ws) 17) _ h e1 in
    let (once, e3) = else_in (twice_of ws) _ h e2 in
    let (ends, e4) = then_in (starts close_words (drop (wires_over text) text)) _ h e3 in
    let (a-named, b-named, body) = named_in (code_named a ws) (code_named b ws) (wires_over text + 35) h e4 in
    let (some, few) = both (ltb 0 (length ws)) (ltb (length ws) 17) size in
    let l = ltb-true 0 (length ws) some in
    let m = ltb-true (length ws) 17 few in
    let (lines, good) = wires_back 17 (drop 46 text) in
    record {
      some = omega arith;
      few = omega arith;
      wires = once_back ws once good;
      first = name_back ws a h.code_a a-named;
      second = name_back ws b h.code_b b-named;
      written = rw body
          (starts_back open_words text begins
          ∙ ap (λ (l : List ℕ). open_words ++ l)
          (lines ∙ ap (λ (l : List ℕ). wire_lines ws ++ l)
          (drop-drop (wires_end 17 (drop 46 text)) 46 text
          ∙ starts_back close_words (drop (wires_over text) text) ends
          ∙ ap (λ (l : List ℕ). close_words ++ l) (drop-drop 35 (wires_over text) text)))
          ∙ sym (header_is ws (drop (wires_over text + 35) text)));
    }
