mod BuildExamples
mod BuildReadingExamples
mod Ascending
pub mod BuildTexts
pub mod BuildsMade
pub mod BuildsRead
pub mod BuildsTaken
mod Cuts
pub mod Digests
mod Equals
mod FileBytes
mod FirstBad
mod Hashing
mod Following
pub mod Lacking
mod Lists
mod LowerDigits
mod Many
mod NextRecords
mod Numbers
pub mod ReadFields
pub mod ReadLines
pub mod ReadWhole
pub mod Steps
mod Taken
pub mod Texts
mod UnitPaths
mod HeaderLines
mod Whole
mod TextLengths
