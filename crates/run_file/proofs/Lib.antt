mod Blanks
mod Differing
mod Started
mod Texts
