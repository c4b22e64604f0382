-- A dump of order 6 says its lines of the chip's eleven wires: these are good by computing the header, and its lines by induction on the waves. Assumes nothing.
use Prim.Native.Nat.{ℕ, zero, suc, ◌+◌, ◌-◌, ◌≤◌, ◌<◌}
use mathlib.Core.Path.{◌≡◌, refl, sym, ◌∙◌, ap, subst}
use mathlib.Core.Bool.{Bool, true, false}
use mathlib.Core.List.{List, [], ◌∷◌, ◌++◌, map}
use native.Mathlib.Omega.{arith}
use lib.Dec.{eqb}
use lib.ListN.{length, drop, get_or, length-map}
use Rattle.std.specs.Prelude.{Some}
use Rattle.format.specs.Pick.{pick}
use Rattle.format.proofs.Laws.Pick.{pick_all}
use Rattle.events.specs.declared.events.Event.{Event}
use Rattle.chip_answers.specs.declared.answers.Lines.{Lines}
use Rattle.chip_device.specs.declared.device.Device.{Device}
use Rattle.chip_step.specs.Chip.{step_of}
use Rattle.chip_fast.specs.Fast.{is_tick}
use Rattle.text.specs.Bytes.{bytes_of}
use Rattle.vcd_text.specs.Header as Written
use Rattle.vcd_text.specs.Header.{Wire, header_of, wire_line, wire_lines, wires_from, chip_wires}
use Rattle.vcd_text.specs.Time.{time_of}
use Rattle.vcd_text.specs.Changes.{differ}
use Rattle.vcd_text.specs.Lines.{Line, times_of}
use Rattle.vcd_text.specs.Lines.Line.{Time, Value}
use Rattle.vcd_read.specs.Wires.{starts, name_of, is_wire, wires_of, wires_end, clash_of, twice_of, has_code, code_named}
use Rattle.vcd_read.specs.declared.scanning.Header.{Header}
use Rattle.vcd_read.specs.Scan.{named_header, header_read}
use Rattle.vcd_dump.specs.Waves.{values_of, waves_from}
use Rattle.vcd_dump.specs.Dump.{events_text}
use Rattle.vcd_laws.proofs.Lines.{changes_of, timed, lines_of}
use Rattle.vcd_laws.proofs.Shows.{dump_lines, eleven, shows}
use Rattle.vcd_subset.specs.Subset.{GoodWires, Says}
use Rattle.vcd_subset.proofs.Header.{header_back}
use Rattle.vcd_subset.proofs.Takes.{lines_back}
use Rattle.vcd_capture.specs.Waves.{NoneAfter}
use Rattle.capture_laws.specs.Captures.{last_of}
use Rattle.capture_laws.proofs.Readable.{lines-readable}

-- ---- the wires ----

wires_read : (rest : List ℕ) → wires_of 17 (drop 46 (header_of chip_wires ++ rest)) ≡ chip_wires
unfolding header_of wire_line wire_lines wires_from chip_wires Written.line_of bytes_of starts name_of is_wire wires_of pick
wires_read rest = refl

abbrev chip_header : Header
chip_header = record { code_a = 33; code_b = 34; body = 336 }

header_read_lem : (rest : List ℕ) → header_read (header_of chip_wires ++ rest) (bytes_of "TxDA") (bytes_of "TxDB") ≡ Some chip_header
unfolding header_of wire_line wire_lines wires_from chip_wires Written.line_of bytes_of starts name_of is_wire wires_of wires_end clash_of twice_of code_named named_header header_read pick
header_read_lem rest = refl

wires_good : GoodWires chip_wires
wires_good =
    let found = header_back (header_of chip_wires ++ []) (bytes_of "TxDA") (bytes_of "TxDB") chip_header (header_read_lem []) in
    subst (λ (ws : List Wire). GoodWires ws) (wires_read []) found.wires

-- the eleven codes are the header's
code_at : (k : ℕ) → k < 11 → has_code chip_wires (33 + k) ≡ true
unfolding has_code chip_wires wires_from pick
code_at zero h = refl
code_at (suc zero) h = refl
code_at (suc (suc zero)) h = refl
code_at (suc (suc (suc zero))) h = refl
code_at (suc (suc (suc (suc zero)))) h = refl
code_at (suc (suc (suc (suc (suc zero))))) h = refl
code_at (suc (suc (suc (suc (suc (suc zero)))))) h = refl
code_at (suc (suc (suc (suc (suc (suc (suc zero))))))) h = refl
code_at (suc (suc (suc (suc (suc (suc (suc (suc zero)))))))) h = refl
code_at (suc (suc (suc (suc (suc (suc (suc (suc (suc zero))))))))) h = refl
code_at (suc (suc (suc (suc (suc (suc (suc (suc (suc (suc zero)))))))))) h = refl
code_at (suc (suc (suc (suc (suc (suc (suc (suc (suc (suc (suc k))))))))))) h = absurd (omega arith)

code_known : (c : ℕ) → 33 ≤ c → c < 44 → has_code chip_wires c ≡ true
code_known c l h =
    let e : 33 + (c - 33) ≡ c = omega arith in
    ap (has_code chip_wires) (sym e) ∙ code_at (c - 33) (omega arith)

-- ---- the lines ----

-- there are at most as many waves as events, and one
few_waves : (d : Device) (es : List Event) → length (waves_from step_of d es) ≤ suc (length es)
unfolding waves_from
few_waves d [] = omega arith
few_waves d (e ∷ es) =
    let next = few_waves (step_of d e).state es in
    let few : List Lines → Type 0 = λ (ls : List Lines). length ls ≤ suc (suc (length es)) in
    pick_all few (eqb (step_of d e).number 0) _ _ (pick_all few (is_tick e) _ _ (omega arith) (omega arith)) (omega arith)

wires_eleven : length chip_wires ≡ 11
unfolding chip_wires wires_from
wires_eleven = refl

pub dump_says : (d : Device) (es : List Event) → length es ≤ 1000000 → Says (events_text d es) chip_wires (dump_lines d es)
dump_says d es h =
    let few = few_waves d es in
    let n = wires_eleven in
    record {
      some = omega arith;
      few = omega arith;
      wires = wires_good;
      lines = lines_back chip_wires false (dump_lines d es)
          (lines-readable (has_code chip_wires) code_known false 0 [] (map values_of (waves_from step_of d es)) (eleven (waves_from step_of d es))
          (rw (length-map (waves_from step_of d es) values_of) (omega arith)));
      written = shows.layout d es;
    }

-- ---- no time is after the last tick's ----

changes_none : (end code : ℕ) (before vs : List Bool) (ms : List Line) → NoneAfter end ms → NoneAfter end (changes_of code before vs ++ ms)
unfolding NoneAfter changes_of pick
changes_none end code before [] ms r = r
changes_none end code [] (v ∷ vs) ms r = changes_none end (suc code) [] vs ms r
changes_none end code (u ∷ us) (v ∷ vs) ms r = one (differ u v) (changes_none end (suc code) us vs ms r)
  where
    one : (t : Bool) → NoneAfter end (changes_of (suc code) us vs ++ ms)
        → NoneAfter end ((pick t (Value code v ∷ []) [] ++ changes_of (suc code) us vs) ++ ms)
    one true q = q
    one false q = q

timed_none : (end n : ℕ) (ls ms : List Line) → time_of n ≤ end → NoneAfter end (ls ++ ms) → NoneAfter end ms → NoneAfter end (timed n ls ++ ms)
unfolding NoneAfter timed
timed_none end n [] ms h r q = q
timed_none end n (l ∷ ls) ms h r q = (h, r)

pub lines_none : (m n : ℕ) (before : List Bool) (waves : List (List Bool)) → n + length waves ≤ suc m → NoneAfter (time_of m) (lines_of n before waves)
unfolding NoneAfter lines_of
lines_none m n before [] h = tt
lines_none m n before (vs ∷ later) h =
    let rest = lines_none m (suc n) vs later (omega arith) in
    timed_none (time_of m) n (changes_of 33 before vs) (lines_of (suc n) vs later) (omega arith)
    (changes_none (time_of m) 33 before vs (lines_of (suc n) vs later) rest) rest

last_of_lem : (end u : ℕ) (ls : List Line) → u ≤ end → NoneAfter end ls → last_of u (times_of ls) ≤ end
unfolding NoneAfter times_of last_of
last_of_lem end u [] l h = l
last_of_lem end u (Value c v ∷ ls) l h = last_of_lem end u ls l h
last_of_lem end u (Time t ∷ ls) l (m, h) = last_of_lem end t ls m h

pub last_within : (end : ℕ) (ls : List Line) (t : ℕ) (ts : List ℕ) → NoneAfter end ls → times_of ls ≡ t ∷ ts → last_of t ts ≤ end
unfolding NoneAfter times_of
last_within end [] t ts h e = absurd (omega (arith, ap length e))
last_within end (Value c v ∷ ls) t ts h e = last_within end ls t ts h e
last_within end (Time u ∷ ls) t ts (l, h) e =
    let first : u ≡ t = ap (λ (l : List ℕ). get_or l 0 0) e in
    let rest : times_of ls ≡ ts = ap (drop 1) e in
    rw (sym first, sym rest) (last_of_lem end u ls l h)
