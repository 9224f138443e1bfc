-- What only bodies and proofs need.
pub mod Inbox
pub mod Notices
pub mod Outbox
