-- The codes as a table: a byte is found there exactly if a wire has it as its code. By induction on the wires. Assumes nothing.
use Prim.Native.Nat.{ℕ, zero, suc, ◌<◌}
use mathlib.Core.Path.{◌≡◌, refl, sym, ◌∙◌}
use mathlib.Core.Bool.{Bool, true, false, ◌||◌, or-true, or-false}
use mathlib.Core.List.{List, [], ◌∷◌}
use native.Mathlib.Omega.{arith}
use lib.Dec.{eqb, ltb}
use lib.ListN.{length, drop, set, replicate, length-set, length-replicate, get_or-replicate, get_or-eq_default}
use lib.Seq.{get_or-set_same, get_or-set_other}
use borrow.Author.Tests.{eqb-true, eqb-false, ltb-true, ltb-false}
use Rattle.format.specs.Pick.{pick}
use Rattle.vcd_text.specs.Header.{Wire}
use Rattle.vcd_read.specs.declared.checking.Checked.{Checked}
use Rattle.vcd_read.specs.Wires.{is_wire, wire_here, wire_end, wires_of, has_code, filled}
use Rattle.vcd_read.specs.Scan.{in_table, checked_by, checked_of}
use Rattle.vcd_read.proofs.Laws.Wires.{code_small}

-- every code has a place in the table
unfoldable Small : List Wire → Type 0
Small [] = Unit {0}
Small (w ∷ ws) = (w.code < 256) × Small ws

small_wires : (n : ℕ) (text : List ℕ) → Small (wires_of n text)
unfolding wires_of Small pick
small_wires zero text = tt
small_wires (suc n) text = go (is_wire text) refl (small_wires n (drop (wire_end text) text))
  where
    go : (t : Bool) → is_wire text ≡ t → Small (wires_of n (drop (wire_end text) text))
        → Small (pick t (wire_here text ∷ wires_of n (drop (wire_end text) text)) [])
    go true e h = (code_small text e, h)
    go false e h = tt

either : (t x y : Bool) → (x || pick t true y) ≡ (pick t true x || y)
unfolding pick
either true x y = or-true x
either false x y = refl

set_found : (t : List Bool) (c b : ℕ) → c < length t → in_table (set t c true) b ≡ pick (eqb c b) true (in_table t b)
unfolding pick
set_found t c b h = go (eqb c b) refl
  where
    go : (e : Bool) → eqb c b ≡ e → in_table (set t c true) b ≡ pick e true (in_table t b)
    go true e = let q = eqb-true c b e in rw (← q, get_or-set_same t c true false h)
    go false e = let q = eqb-false c b e in rw (get_or-set_other t c b true false (λ z. q (sym z)))

filled_found : (ws : List Wire) (t : List Bool) (b : ℕ) → Small ws → length t ≡ 256 → in_table (filled ws t) b ≡ (has_code ws b || in_table t b)
unfolding filled has_code Small
filled_found [] t b h l = refl
filled_found (w ∷ ws) t b h l =
    filled_found ws (set t w.code true) b h.1 (length-set t w.code true ∙ l)
    ∙ rw (set_found t w.code b (omega (arith, h.0))) (either (eqb w.code b) (has_code ws b) (in_table t b))

empty_table : (b : ℕ) → in_table (replicate 256 false) b ≡ false
empty_table b = go (ltb b 256) refl
  where
    go : (t : Bool) → ltb b 256 ≡ t → in_table (replicate 256 false) b ≡ false
    go true e = rw (get_or-replicate {A = Bool} 256 b false false (ltb-true b 256 e))
    go false e =
        let far = ltb-false b 256 e in
        let long = length-replicate {A = Bool} 256 false in
        rw (get_or-eq_default {A = Bool} (replicate 256 false) false {n = b} (omega arith))

pub table_is : (n : ℕ) (text : List ℕ) (b : ℕ) → in_table (filled (wires_of n text) (replicate 256 false)) b ≡ has_code (wires_of n text) b
table_is n text b =
    filled_found (wires_of n text) (replicate 256 false) b (small_wires n text) (length-replicate {A = Bool} 256 false)
    ∙ rw (empty_table b) (or-false (has_code (wires_of n text) b))

-- two ways to know a code that agree check alike
pub checked_alike : (known other : ℕ → Bool) → ((b : ℕ) → known b ≡ other b) → (x : Checked) (bs : List ℕ) → checked_of known x bs ≡ checked_of other x bs
unfolding checked_of
checked_alike known other h x [] = refl
checked_alike known other h x (b ∷ bs) = rw (h b) (checked_alike known other h (checked_by x b (other b)) bs)
