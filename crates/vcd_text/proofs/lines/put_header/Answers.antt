-- `put_header` meets its contract: its bytes are the definition's, computed. Assumes nothing.
use Rattle.text.specs.Bytes.{bytes_of}
use Rattle.vcd_text.specs.Header.{line_of, wire_line, wire_lines, header_of, wires_from, chip_wires}
use Rattle.vcd_text.proofs.lines.put_header.Goals as goal

pub returns : goal.returns
unfolding bytes_of line_of wire_line wire_lines wires_from chip_wires header_of
returns c = record { same = c.put_bytes.ensures.same; puts = c.put_bytes.ensures.puts }
