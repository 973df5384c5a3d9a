pub mod XicsClaims
