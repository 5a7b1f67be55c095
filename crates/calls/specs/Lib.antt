pub mod Text
pub mod Numbers
pub mod BlockAndPool
pub mod Asked
pub mod Results
