-- `put_refused` meets its contract: the words are put, and then the number. Assumes nothing.
use Rattle.text.specs.Bytes.{bytes_of}
use Rattle.text.proofs.Laws.Pages.{writes_then}
use Rattle.capture.specs.Said.{refused_text}
use Rattle.capture.proofs.said.put_refused.Goals as goal

pub returns : goal.returns
unfolding refused_text bytes_of
returns c = writes_then c.put_bytes.ensures c.put_byte.ensures.text
