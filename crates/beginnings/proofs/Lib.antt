-- Two files byte by byte, the place of an accepted move, parts of buffers, and the status of an answer
pub mod ChangeLaws
pub mod PartLaws
pub mod PlaceLaws
