-- laws of the free pages
pub mod FreePages
-- in a new image no rule of the kernel fails
pub mod NewKernel
-- what the kernel's single steps leave of the memory
pub mod StepLemmas
-- what events do to one word
pub mod WordSteps
-- lines in order of address
pub mod LineLemmas
-- one pair more, and where the events are
pub mod EventLemmas
-- which words pairs name
pub mod LaidLemmas
-- what a phase leaves
pub mod PhaseLemmas
-- what finishing pairs leaves
pub mod FinishLemmas
-- what crashes between events leave
pub mod CutLemmas
-- crashes one after another
pub mod CrashLemmas
-- what is left where pages are given
pub mod GivenSteps
-- what the kernel reads where nothing is committed
pub mod Idle
-- a crash changes nothing where all is durable
pub mod Steady
