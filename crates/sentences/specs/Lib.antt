-- Sentences: how grammars and their readers are put together, macroblocks, and what is claimed of a reader and its grammar.
pub mod Compose
pub mod ComposeReader
pub mod Macroblock
pub mod MacroblockReader
pub mod Sentences
