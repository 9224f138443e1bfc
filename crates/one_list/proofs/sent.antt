-- What was sent, and by whom.
pub mod ArrivedMessages
pub mod MessageHeaders
pub mod MonotoneNeeds
pub mod NothingForeign
pub mod SentMessages
pub mod VoteTexts
