pub mod MemClock
