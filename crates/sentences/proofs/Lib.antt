-- The laws of sentences: how grammars are put together, what reads them, where they break off, reading one for each of a list, counting the events of blocks, and that 11 is none of reading.
pub mod ComposeLaws
pub mod Reading
pub mod Sentences
pub mod CutSentences
pub mod EachLaws
pub mod CountLaws
pub mod ByBits
