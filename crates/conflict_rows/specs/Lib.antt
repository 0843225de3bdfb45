pub mod Items
pub mod Near
pub mod Points
pub mod Found
