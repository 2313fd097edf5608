-- laws of folds along a list of entries
pub mod FoldLemmas
-- bits as a set has them
mod BitLemmas
