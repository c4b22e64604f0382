-- The read-back of demand 2. What an idle sampler hears of a frame is one confirmed start and one clean arrival (Laws/Heard); what
-- arrives, and what the queue comes to hold, follow from what is heard. Assumes nothing.
use Prim.Native.Nat.{ℕ, ◌≤◌}
use mathlib.Core.Path.{◌≡◌, refl, sym, ap, ◌∙◌}
use mathlib.Core.Bool.{Bool, true, false, or-true, or-false}
use mathlib.Core.List.{List, [], ◌∷◌, ◌++◌, append_assoc}
use native.Mathlib.Omega.{arith}
use borrow.Author.Tests.{eqb-true}
use Rattle.format.specs.declared.format.Format.{Format}
use Rattle.format.specs.Pick.{pick}
use Rattle.format.specs.Digits.{cut_of}
use Rattle.format.specs.Format.{format_of}
use Rattle.format.specs.Stop.{stop_length_of}
use Rattle.format.proofs.Laws.Format.{width_most}
use Rattle.format.proofs.Laws.Stop.{stop_least}
use Rattle.frame.specs.Levels.{before_stop, spread, levels, frame}
use Rattle.character.specs.declared.character.Character.{Character}
use Rattle.character.specs.Character.{clean}
use Rattle.sampler_state.specs.declared.state.Sampler.{Sampler}
use Rattle.feed.specs.declared.feed.Setting.{Setting}
use Rattle.sampler_state.specs.State.{hunting}
use Rattle.std.specs.Prelude.{Option, None, Some, option_to_list}
use Rattle.sampler_hunting.specs.declared.hunting.Sampled.{Sampled}
use Rattle.sampler_hunting.specs.Hunting.{hunted}
use Rattle.sampler.specs.Lines.{at16, Line, hears, after_lines, arrivals}
use Rattle.sampler.specs.Sampler.{sample_of}
use Rattle.sampler.proofs.Laws.Heard.{Said, changing, begun, coming, heard, reached, Ran, hears-frame}
use Rattle.sampler.proofs.Laws.Heard.Said.{changes, began, came}
use Rattle.queue.specs.declared.queue.Queue.{Queue}
use Rattle.queue.specs.Queue.{held_of, without_waiting_of}
use Rattle.queue.proofs.Laws.Queue.{held_put, held_without_waiting, is_empty_held, without_waiting_count}
use Rattle.receiver_state.specs.declared.arrivals.Receiver.{Receiver}
use Rattle.receiver_state.specs.Arrivals.{with_sampler, with_change, heard_of, started_of, entered_of, arrived_of, pulsed_of}
use Rattle.receiver_status.specs.Status.{status_of}
use Rattle.feed.specs.declared.feed.Feed.{Feed}
use Rattle.receiver.specs.Delivery.{lines_of, lines_over, after}
use Rattle.receiver.specs.ReadBack.{pulses, sent, sent_all, Idle, ReadBack, ReadBackAll, ReadsBack}
use Rattle.receiver.specs.Receiver.{fed_of}
use Rattle.receiver.proofs.Laws.Waiting.{answered_sampler}
use Rattle.receiver.proofs.Delivery.{given_held}

-- ---- an idle sampler is at its first pulse as one that just heard a high ----

sample_idle : (s : Sampler) (b : Bool) (f : Setting) → Idle s → sample_of s b f ≡ sample_of (hunting true) b f
unfolding sample_of hunted pick
sample_idle s b f i = rw (i.hunts, i.high)

ran_idle : {f : Setting} {s t : Sampler} {b : Bool} {ls : List Bool} {x : List Said} → Idle s → Ran f (hunting true) (b ∷ ls) x t → Ran f s (b ∷ ls) x t
unfolding heard reached
ran_idle {f} {s} {t} {b} i r = record { says = rw (sample_idle s b f i) r.says; ends = rw (sample_idle s b f i) r.ends }

idle_hears : (f : Format) (n x : ℕ) (s : Sampler) → f.width.0 ≤ 8 → 9 ≤ n → Idle s
    → Ran (at16 f) s (levels 16 n (before_stop f x)) (began ∷ came (clean (cut_of f.width.0 x)) ∷ []) (hunting true)
unfolding levels spread before_stop
idle_hears f n x s w h i = ran_idle i (hears-frame f n x w h)

-- ---- over pulses, what the sampler says arrives, and the receiver follows it ----

abbrev arriving : List Said → List Character
arriving [] = []
arriving (changes ∷ l) = arriving l
arriving (began ∷ l) = arriving l
arriving (came c ∷ l) = c ∷ arriving l

arrivals_heard : (f : Setting) (s : Sampler) (ls : List Bool) → arrivals s (lines_over (pulses f ls)) ≡ arriving (heard f s ls)
unfolding arrivals lines_over hears heard
arrivals_heard f s [] = refl
arrivals_heard f s (b ∷ ls) =
    rw (arrivals_heard f (sample_of s b f).next ls) (said (sample_of s b f).change (sample_of s b f).started (sample_of s b f).came _)
  where
    coming-first : (o : Option Character) (l : List Said) → option_to_list o ++ arriving l ≡ arriving (coming o ++ l)
    coming-first None l = refl
    coming-first (Some c) l = refl

    said : (u t : Bool) (o : Option Character) (l : List Said) → option_to_list o ++ arriving l ≡ arriving (changing u ++ (begun t ++ (coming o ++ l)))
    said true true o l = coming-first o l
    said true false o l = coming-first o l
    said false true o l = coming-first o l
    said false false o l = coming-first o l

lines_reached : (f : Setting) (s : Sampler) (ls : List Bool) → after_lines s (lines_over (pulses f ls)) ≡ reached f s ls
unfolding after_lines lines_over hears reached
lines_reached f s [] = refl
lines_reached f s (b ∷ ls) = lines_reached f (sample_of s b f).next ls

-- a receiver that is told what the sampler says
abbrev plays : List Said → Receiver → Receiver
plays [] r = r
plays (changes ∷ l) r = plays l (with_change r true)
plays (began ∷ l) r = plays l (started_of r true)
plays (came c ∷ l) r = plays l (entered_of r c)

-- it does not touch its sampler
plays_sampler : (l : List Said) (r : Receiver) (s : Sampler) → plays l (with_sampler r s) ≡ with_sampler (plays l r) s
unfolding started_of entered_of pick
plays_sampler [] r s = refl
plays_sampler (changes ∷ l) r s = plays_sampler l (with_change r true) s
plays_sampler (began ∷ l) r s = plays_sampler l (started_of r true) s
plays_sampler (came c ∷ l) r s = plays_sampler l (entered_of r c) s

plays_answer : (r : Receiver) (s : Sampler) (u t : Bool) (o : Option Character) (l : List Said)
    → plays l (arrived_of (started_of (heard_of r s u) t) o) ≡ with_sampler (plays (changing u ++ (begun t ++ (coming o ++ l))) r) s
unfolding started_of arrived_of entered_of pick
plays_answer r s true true None l = rw or-true (plays_sampler l (started_of (with_change r true) true) s)
plays_answer r s true true (Some c) l = rw or-true (plays_sampler l (entered_of (started_of (with_change r true) true) c) s)
plays_answer r s true false None l = rw or-true (plays_sampler l (with_change r true) s)
plays_answer r s true false (Some c) l = rw or-true (plays_sampler l (entered_of (with_change r true) c) s)
plays_answer r s false true None l = rw or-false (plays_sampler l (started_of r true) s)
plays_answer r s false true (Some c) l = rw or-false (plays_sampler l (entered_of (started_of r true) c) s)
plays_answer r s false false None l = rw or-false (plays_sampler l r s)
plays_answer r s false false (Some c) l = rw or-false (plays_sampler l (entered_of r c) s)

pulsed_sampler : (r : Receiver) (b : Bool) (f : Setting) → (pulsed_of r b f).sampler ≡ (sample_of r.sampler b f).next
unfolding pulsed_of
pulsed_sampler r b f = answered_sampler r (sample_of r.sampler b f)

after_plays : (f : Setting) (r : Receiver) (ls : List Bool)
    → after fed_of r (pulses f ls) ≡ with_sampler (plays (heard f r.sampler ls) r) (reached f r.sampler ls)
unfolding after fed_of heard reached pulsed_of
after_plays f r [] = refl
after_plays f r (b ∷ ls) =
    let m : Sampled = sample_of r.sampler b f in
    let n : Receiver = pulsed_of r b f in
    after_plays f n ls
    ∙ ap (λ (s : Sampler). with_sampler (plays (heard f s ls) n) (reached f s ls)) (pulsed_sampler r b f)
    ∙ ap (λ (d : Receiver). with_sampler d (reached f m.next ls)) (plays_answer r m.next m.change m.started m.came (heard f m.next ls))

-- ---- into an empty queue ----

empty_count : (q : Queue) → held_of q ≡ [] → q.count ≡ 0
empty_count q e = eqb-true q.count 0 ((is_empty_held q).1 e)

-- a confirmed start removes nothing, and what then arrives is the one held
one_held : (r : Receiver) (c : Character) → held_of r.queue ≡ [] → held_of (entered_of (started_of r true) c).queue ≡ c ∷ []
unfolding started_of entered_of pick
one_held r c e =
    let none = empty_count r.queue e in
    let room : (without_waiting_of r.queue).count ≤ 3 = rw (without_waiting_count r.queue) (omega arith) in
    rw (held_put (without_waiting_of r.queue) c room, held_without_waiting r.queue (omega arith), e)

none_overrun : (r : Receiver) (c : Character) → held_of r.queue ≡ [] → (entered_of (started_of r true) c).overrun ≡ r.overrun
unfolding started_of entered_of pick
none_overrun r c e = rw (empty_count r.queue e, or-false)

none_changed : (r : Receiver) (c : Character) → (entered_of (started_of r true) c).change ≡ r.change
unfolding started_of entered_of pick
none_changed r c = refl

idle_again : {s : Sampler} → s ≡ hunting true → Idle s
idle_again e = record { hunts = rw e; high = rw e }

pub read_back : ReadsBack fed_of status_of
read_back f n x r w h i e =
    let ls : List Bool = levels 16 n (before_stop f x) in
    let c : Character = clean (cut_of f.width.0 x) in
    let k = idle_hears f n x r.sampler w h i in
    let whole : after fed_of r (sent f n x) ≡ with_sampler (entered_of (started_of r true) c) (hunting true) =
    after_plays (at16 f) r ls ∙ rw (k.says, k.ends) in
    let q : held_of (after fed_of r (sent f n x)).queue ≡ c ∷ [] = rw whole (one_held r c e) in
    record {
      one = rw (arrivals_heard (at16 f) r.sampler ls, k.says);
      held = q;
      reading = given_held (after fed_of r (sent f n x)) ∙ rw q;
      overrun = rw whole (none_overrun r c e);
      change = rw whole (none_changed r c);
      idle = idle_again (rw whole);
    }

-- ---- frames back to back ----

lines_append : (a b : List Feed) → lines_over (a ++ b) ≡ lines_over a ++ lines_over b
unfolding lines_over
lines_append [] b = refl
lines_append (e ∷ a) b = rw (lines_append a b) (sym (append_assoc (lines_of e) (lines_over a) (lines_over b)))

after_append : (s : Sampler) (a b : List Line) → after_lines s (a ++ b) ≡ after_lines (after_lines s a) b
unfolding after_lines
after_append s [] b = refl
after_append s (x ∷ a) b = after_append (hears s x).next a b

arrivals_append : (s : Sampler) (a b : List Line) → arrivals s (a ++ b) ≡ arrivals s a ++ arrivals (after_lines s a) b
unfolding arrivals after_lines
arrivals_append s [] b = refl
arrivals_append s (x ∷ a) b = rw (arrivals_append (hears s x).next a b) (sym (append_assoc (option_to_list (hears s x).came) _ _))

pub read_back_all : (f : Format) (n : ℕ) (xs : List ℕ) (s : Sampler) → f.width.0 ≤ 8 → 9 ≤ n → Idle s → ReadBackAll f n xs s
unfolding lines_over arrivals after_lines
read_back_all f n [] s w h i = record { each = refl; idle = i }
read_back_all f n (x ∷ xs) s w h i =
    let ls : List Bool = levels 16 n (before_stop f x) in
    let k = idle_hears f n x s w h i in
    let a : List Line = lines_over (sent f n x) in
    let b : List Line = lines_over (sent_all f n xs) in
    let t : after_lines s a ≡ hunting true = lines_reached (at16 f) s ls ∙ k.ends in
    let rest = read_back_all f n xs (hunting true) w h (idle_again refl) in
    record {
      each = rw (lines_append (sent f n x) (sent_all f n xs), arrivals_append s a b, t, arrivals_heard (at16 f) s ls, k.says, rest.each);
      idle = rw (lines_append (sent f n x) (sent_all f n xs), after_append s a b, t) rest.idle;
    }

-- ---- what a transmitter sends ----

-- The frame of a format and a stop code, with a 16X clock, is one of those above.
pub sent_frame : (f : Format) (c x : ℕ) → pulses (at16 f) (frame true f c x) ≡ sent f (stop_length_of f.width c).0 x
unfolding frame pick
sent_frame f c x = refl

-- So it is read back, for any byte in MR1 and any stop code of MR2.
pub read_back_frame : (mr1 c x : ℕ) (r : Receiver) → Idle r.sampler → held_of r.queue ≡ []
    → ReadBack fed_of status_of (format_of mr1) (stop_length_of (format_of mr1).width c).0 x r
read_back_frame mr1 c x r i e = read_back (format_of mr1) _ x r (width_most mr1) (stop_least (format_of mr1).width c) i e
