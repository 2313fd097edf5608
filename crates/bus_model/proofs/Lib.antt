-- what flushes and fences of threads leave of the words
pub mod Flushes
-- laws of the machine
pub mod MachineLemmas
-- laws of the registers before any thread has opened a key
pub mod Registers
