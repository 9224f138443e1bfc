mod Examples
mod Cutting
mod Digits
mod Fronts
mod Preorder
mod Splitting
