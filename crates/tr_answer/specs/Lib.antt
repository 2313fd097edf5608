-- what the program's nodes and walks stand for
pub mod Nodes
-- what its coffers stand for
pub mod Contents
-- what its decisions stand for
pub mod Decisions
