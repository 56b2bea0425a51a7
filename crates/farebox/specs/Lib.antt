pub mod NoJob
