pub mod CallerLemmas
pub mod Tables
pub mod Covered
pub mod Counts
pub mod Releases
pub mod Moves
pub mod Holds
pub mod HeldAnew
pub mod Lent
pub mod Entered
pub mod Ending
mod Dropped
pub mod Discounted
pub mod Pushed
pub mod Places
mod OnePut
mod AllPut
pub mod PushPut
mod CutOff
pub mod Taken
mod Cases
