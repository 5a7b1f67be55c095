-- Block and place apart.
pub mod Apart
