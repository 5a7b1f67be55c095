-- A scan by its cases.
mod ScanLaws
