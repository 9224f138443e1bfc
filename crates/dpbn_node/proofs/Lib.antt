mod RepeatLemmas
mod RequestLemmas
mod Shown
mod TakenTurns
