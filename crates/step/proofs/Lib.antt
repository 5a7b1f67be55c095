-- What a step's calls give, put together.
pub mod ExecLaws
pub mod FormLaws
