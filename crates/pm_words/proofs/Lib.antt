pub mod WordLemmas
mod MarkLemmas
mod LogLemmas
mod HeldLemmas
mod PlaceLemmas
mod LineLemmas
mod LastLemmas
mod ViewLemmas
mod DurableLemmas
mod SettleLemmas
pub mod HistoryLemmas
pub mod CrashLemmas
