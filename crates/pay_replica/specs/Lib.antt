pub mod Descriptions
pub mod Digested
pub mod Laws
pub mod Replicas
