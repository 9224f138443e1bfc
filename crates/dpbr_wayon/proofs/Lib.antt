mod Growing
mod JustGiven
mod ReadAgain
mod Sound
mod Refusing
