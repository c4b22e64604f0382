-- What a reader must believe of a dump that is read: `Wires` is the grammar of the header; that of the lines after it
-- is `vcd_lines`'s.
pub mod Wires
pub mod Scan
