-- What builds and the list have.
pub mod AuditOfList
pub mod BuildableBuilds
pub mod Decisions
pub mod HeldPackages
pub mod ListRecords
pub mod ListedBuilds
pub mod SomeList
pub mod UnitRecords
