-- The laws of events: the lent tables, the readers and their grammar, how the answers of the code go together, the answers by number, that 11 is none of reading, and the counts of spellings.
pub mod RowLaws
pub mod EventLaws
pub mod RvlcLaws
pub mod EitherLaws
pub mod ChainLaws
pub mod OutcomeLaws
pub mod Apart
pub mod ByBits
pub mod SpellingLaws
