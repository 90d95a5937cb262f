-- what goes over one step after another
pub mod Passing
pub mod Spooled
-- lines that are heard one after another
pub mod Answering
pub mod NextLine
pub mod SoFar
-- how talks, starts and calls begin and end
pub mod Begun
pub mod Closing
pub mod Opened
pub mod Conversed
pub mod Judged
-- what belongs to single answers
pub mod Results
-- why a robot that was answered is answered to the end
pub mod NeverLater
