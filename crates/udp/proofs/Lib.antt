mod Granted
mod FirstBad
mod InboxLemmas
mod NoticeLemmas
mod NoticeTexts
mod NotifyLemmas
pub mod Notified
mod UsedPort
mod Coming
mod RequestLemmas
mod Leaving
mod SentAway
mod TallyLemmas
