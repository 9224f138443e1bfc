pub mod Steps
pub mod Numbers
pub mod FieldTexts
mod Readers
mod Builds
pub mod NoteTexts
mod Fronts
mod WholeTexts
mod PieceTexts
pub mod DatagramTexts
pub mod PieceNumbers
mod CutTexts
mod Places
pub mod Cutting
mod Refused
mod Rows
