mod Holding
mod NumberedLines
mod PackageLines
mod Positions
mod Refusing
mod Slices
