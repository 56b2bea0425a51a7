pub mod SetsBack
