-- what it is to be among what is left of a list
pub mod Members
-- rights and holders
pub mod Rows
-- what the values of the register allow
pub mod Register
-- what actions leave of the kernel's pages
pub mod Kernels
-- what users see of the root coffer alone
pub mod Roots
-- the world after an action of a thread
pub mod Worlds
-- actions that a scene allows
pub mod Reached
-- steps in the window, as steps of a scene
pub mod Scenes
-- the path that a command looks for
pub mod Paths
-- what quiet steps leave
pub mod Quiet
-- what a session gives, exit by exit
pub mod Exits
-- what a begun call knows, and where knowledge stays
pub mod SessionLaws
-- the world as it opens over a new image
pub mod Opening
