mod Examples
mod Refusing
