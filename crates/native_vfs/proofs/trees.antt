pub mod LoadedDirectories
pub mod LoadedLists
pub mod LoadedNodes
pub mod LoadedNumbers
pub mod LoadedSystem
pub mod SavedLists
pub mod SavedNodes
pub mod SmallTrees
