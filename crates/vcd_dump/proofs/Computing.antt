-- One name for what a proof by computing unfolds: what a dump makes of a device and bytes. It says nothing by itself.
use mathlib.Core.Bool.{Bool, true}
use Rattle.format.specs.Pick.{pick}
use Rattle.format.specs.Digits.{digit_of, bits_of}
use Rattle.chip_fast.specs.Fast.{is_tick}
use Rattle.records.specs.Records.{event_of}
use Rattle.text.specs.Bytes.{bytes_of}
use Rattle.text.specs.Decimal.{decimal_of}
use Rattle.vcd_text.specs.Header.{line_of, wire_line, wire_lines, header_of, wires_from, chip_wires}
use Rattle.vcd_text.specs.Changes.{value_lines, at_time, waves_text, dump_text}
use Rattle.vcd_text.specs.Lines.{line_text}
use Rattle.vcd_dump.specs.Waves.{records_of, waves_from}
use Rattle.vcd_dump.specs.Dump.{text_of, dump_refusal, dumped_of, space_after}

unfoldable pub dumping : Bool
unfolding pick digit_of bits_of is_tick event_of bytes_of decimal_of line_of wire_line wire_lines header_of wires_from chip_wires line_text
    value_lines at_time waves_text dump_text records_of waves_from text_of dump_refusal dumped_of space_after
dumping = true
