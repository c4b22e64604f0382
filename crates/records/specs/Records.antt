-- An event and its answer as records. Assumes nothing.
use Rattle.std.specs.Prelude.{ℕ, Bool, eqb}
use Rattle.format.specs.Pick.{pick}
use Rattle.chip_answers.specs.declared.answers.Lines.{Lines}
use Rattle.events.specs.declared.events.Event.{Event}
use Rattle.events.specs.declared.events.Event.TheVariants.{ChipReset, Read, Write, Acknowledge, Pins, Tick}
use Rattle.records.specs.declared.records.EventRecord.{EventRecord}
use Rattle.records.specs.declared.records.Seen.{Seen}

-- "Events: chip reset; read register n; write register n with a byte; interrupt acknowledge; pins (byte: bits 0-5
-- IP0-IP5, 6 RxDA, 7 RxDB); tick." The kinds are 0 to 5, in this order. Another kind is a read of register 255, so that
-- every record is an event, and that one is answered 2.
unfoldable pub event_of : EventRecord → Event
event_of r =
    pick (eqb r.kind 0) ChipReset
    (pick (eqb r.kind 1) (Read r.reg)
    (pick (eqb r.kind 2) (Write r.reg r.byte)
    (pick (eqb r.kind 3) Acknowledge
    (pick (eqb r.kind 4) (Pins r.byte)
    (pick (eqb r.kind 5) Tick (Read 255))))))

-- "The answer has the number, the data byte (0 where none is read), IRQ (1 when asserted), TxDA, TxDB, the OP0-OP7
-- levels"; order 1: "The receive buffer read shall also say fresh or stale"
abbrev pub seen_of : ℕ → ℕ → Bool → Lines → Seen
seen_of number byte fresh l =
    record {
      number = number;
      «data» = byte;
      fresh = fresh;
      irq = l.irq;
      txda = l.txda;
      txdb = l.txdb;
      op = l.op;
    }
