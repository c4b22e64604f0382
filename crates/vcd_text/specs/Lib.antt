-- What a reader must believe of a value change dump's text: the times, the header, and the lines after it, as they
-- are written (`Changes`) and as they are read (`Lines`); `Words` says how the code goes.
pub mod Time
pub mod Header
pub mod Changes
pub mod Lines
pub mod Words
