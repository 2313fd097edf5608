pub mod RegisterLemmas
pub mod PageLemmas
mod RowLemmas
pub mod LawLemmas
mod ThreadLemmas
mod TiedLemmas
mod ChangeLemmas
mod AnswerLemmas
pub mod OneRow
