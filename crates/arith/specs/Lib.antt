-- What the contracts cite beside the definitions of ec20.
pub mod Bounded
