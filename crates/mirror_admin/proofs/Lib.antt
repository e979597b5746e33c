pub mod DefaultNames
