-- What the seven numbers tell.
pub mod Seven
