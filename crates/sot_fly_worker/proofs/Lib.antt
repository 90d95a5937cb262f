-- histories that go on
pub mod Histories
-- what turns change of shifts
pub mod Turning
-- what a firing leaves
pub mod Firing
-- what each way through a turn makes of a shift
pub mod Arms
-- code that runs on views
pub mod Running
-- a node fires at most as often as it is due
pub mod Rooms
