-- What a reading by windows says in the reader's terms, how far the places of a block reach, and spellings in one number.
pub mod Ends
pub mod Packed
pub mod Told
